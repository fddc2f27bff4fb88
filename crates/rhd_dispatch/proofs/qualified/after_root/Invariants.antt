use Rattle.std.proofs.Common.{◌≡◌, take}
use Rattle.rhd_dispatch.proofs.qualified.after_root.Given as goal

abbrev pub invariant-loop-name : goal.invariant-loop-name
invariant-loop-name l = l.names ≡ take l.name-index l.rest
