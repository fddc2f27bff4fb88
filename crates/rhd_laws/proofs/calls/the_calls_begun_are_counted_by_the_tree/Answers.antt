use Rattle.rhd_laws.proofs.TreeLaws.{runs_count, parts_count}
use Rattle.rhd_laws.proofs.calls.the_calls_begun_are_counted_by_the_tree.Goals as goal

pub returns-clause-counted : goal.returns-clause-counted
returns-clause-counted g c = λ r. runs_count _ _ r.runs

pub returns-clause-parts : goal.returns-clause-parts
returns-clause-parts g c = λ node. parts_count node
