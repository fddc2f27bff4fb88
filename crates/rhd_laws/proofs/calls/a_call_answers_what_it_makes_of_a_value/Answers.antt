use Rattle.rhd_laws.proofs.PrintedNodes.{tree_value, tree_unit}
use Rattle.rhd_laws.proofs.calls.a_call_answers_what_it_makes_of_a_value.Goals as goal

pub returns-clause-value : goal.returns-clause-value
returns-clause-value g c = λ r node inside value. tree_value _ _ inside value r.runs

pub returns-clause-unit : goal.returns-clause-unit
returns-clause-unit g c = λ r node inside pick set value is prints h. tree_unit _ _ inside pick set value r.runs is prints h
