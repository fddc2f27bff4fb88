use Rattle.std.proofs.Common.{◌≡◌, take}
use Rattle.rhd_decl.specs.Registration.{params_by_type}
use Rattle.rhd_engine.proofs.registering.params_by_type.Given as goal

abbrev pub invariant-loop-tag : goal.invariant-loop-tag
invariant-loop-tag l = l.params ≡ params_by_type (take l.tag-index l.types)
