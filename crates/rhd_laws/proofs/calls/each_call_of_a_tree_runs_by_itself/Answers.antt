use Rattle.rhd_laws.proofs.TreeLaws.{tree_runs, tree_levels}
use Rattle.rhd_laws.proofs.calls.each_call_of_a_tree_runs_by_itself.Goals as goal

pub returns-clause-runs : goal.returns-clause-runs
returns-clause-runs g c = λ r node inside. tree_runs _ _ inside r.runs

pub returns-clause-levels : goal.returns-clause-levels
returns-clause-levels g c = λ r node child inside among. tree_levels _ _ inside child r.runs among
