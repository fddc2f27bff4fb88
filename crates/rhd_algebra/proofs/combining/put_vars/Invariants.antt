use Rattle.std.proofs.Common.{◌≡◌, take}
use Rattle.rhd_module.specs.Manifests.{put_vars}
use Rattle.rhd_algebra.proofs.combining.put_vars.Given as goal

abbrev pub invariant-loop-name : goal.invariant-loop-name
invariant-loop-name l = l.vars ≡ put_vars (take l.name-index l.more) l.initial.vars
