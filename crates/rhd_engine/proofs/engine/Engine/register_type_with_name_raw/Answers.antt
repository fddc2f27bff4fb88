use Rattle.std.proofs.Common.{refl}
use Rattle.rhd_engine.specs.Of.{lists_of}
use Rattle.rhd_engine.proofs.engine.Engine.register_type_with_name_raw.Goals as goal

pub returns-in_err-set_type_in_first-clause-kept : goal.returns-in_err-set_type_in_first-clause-kept
unfolding lists_of
returns-in_err-set_type_in_first-clause-kept g c = refl

pub returns-clause-kept : goal.returns-clause-kept
unfolding lists_of
returns-clause-kept g c = refl
