use Rattle.std.proofs.Common.{◌≡◌, take}
use Rattle.rhd_manifest.proofs.manifest.dup_subs.Given as goal

abbrev pub invariant-loop-sub : goal.invariant-loop-sub
invariant-loop-sub l = l.copy.items ≡ take l.sub-index l.subs
