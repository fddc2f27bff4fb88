use Rattle.rhd_laws.proofs.RunTrees.{run_gives, run_tree, run_node, run_call, run_many}
use Rattle.rhd_laws.proofs.runs.each_tree_of_a_run_runs_where_the_run_came.Goals as goal

pub returns-clause-gives : goal.returns-clause-gives
returns-clause-gives g c = λ state last before after commands result h. run_gives _ state last before after commands result h

pub returns-clause-tree : goal.returns-clause-tree
returns-clause-tree g c = λ run n root h. run_tree _ run n root h

pub returns-clause-node : goal.returns-clause-node
returns-clause-node g c = λ run n root node inside h. run_node _ run n root node inside h

pub returns-clause-call : goal.returns-clause-call
returns-clause-call g c = λ run n request h. run_call _ run n request h

pub returns-clause-as_many : goal.returns-clause-as_many
returns-clause-as_many g c = λ run. run_many _ run
