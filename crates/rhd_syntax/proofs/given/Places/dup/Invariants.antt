use Rattle.std.proofs.Common.{◌≡◌, take}
use Rattle.rhd_syntax.proofs.given.Places.dup.Given as goal

abbrev pub invariant-loop-place : goal.invariant-loop-place
invariant-loop-place l = l.places ≡ take l.place-index l.place-items
