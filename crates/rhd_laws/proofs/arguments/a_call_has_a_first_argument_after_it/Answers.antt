use Rattle.rhd_laws.proofs.FirstLeft.{tree_first, tree_lost, tree_plain}
use Rattle.rhd_laws.proofs.arguments.a_call_has_a_first_argument_after_it.Goals as goal

pub returns-clause-exactly : goal.returns-clause-exactly
returns-clause-exactly g c = λ r node inside whole. tree_first _ _ inside r.runs whole

pub returns-clause-cut : goal.returns-clause-cut
returns-clause-cut g c = λ r node inside is. tree_lost _ _ inside r.runs is

pub returns-clause-plain : goal.returns-clause-plain
returns-clause-plain g c = λ r node args inside is. tree_plain _ _ inside args r.runs is
