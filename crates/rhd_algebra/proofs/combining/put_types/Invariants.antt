use Rattle.std.proofs.Common.{◌≡◌, take}
use Rattle.rhd_module.specs.Manifests.{put_types}
use Rattle.rhd_algebra.proofs.combining.put_types.Given as goal

abbrev pub invariant-loop-type_name : goal.invariant-loop-type_name
invariant-loop-type_name l = l.types ≡ put_types (take l.type_name-index l.more) l.initial.types
