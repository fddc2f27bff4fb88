use Rattle.rhd_hash.proofs.PutIn.{is_put, finds_itself, finds_others}
use Rattle.rhd_engine.specs.Operators.{operator_eq, operator_eq-Decides}
use Rattle.rhd_engine.proofs.law.a_builtin_leaves_the_others.Goals as goal

pub returns-clause-put : goal.returns-clause-put
returns-clause-put c = λ bs o id. is_put operator_eq operator_eq-Decides o id bs

pub returns-clause-itself : goal.returns-clause-itself
returns-clause-itself c = λ bs o id. finds_itself operator_eq operator_eq-Decides o id bs

pub returns-clause-others : goal.returns-clause-others
returns-clause-others c = λ bs o other id apart. finds_others operator_eq operator_eq-Decides o id other bs apart
