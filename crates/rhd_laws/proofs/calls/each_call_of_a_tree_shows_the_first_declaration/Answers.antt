use Rattle.rhd_laws.proofs.TreeFaults.{tree_picked, tree_alone, tree_unbegun}
use Rattle.rhd_laws.proofs.Owned.{tree_host, tree_unfound}
use Rattle.rhd_laws.proofs.calls.each_call_of_a_tree_shows_the_first_declaration.Goals as goal

pub returns-clause-shown : goal.returns-clause-shown
returns-clause-shown g c = λ r node inside pick begun. tree_picked _ _ inside pick r.runs begun

pub returns-clause-alone : goal.returns-clause-alone
returns-clause-alone g c = λ r node inside begun h. tree_alone _ _ inside r.runs begun h

pub returns-clause-unbegun : goal.returns-clause-unbegun
returns-clause-unbegun g c = λ r node inside h. tree_unbegun _ _ inside r.runs h

pub returns-clause-host : goal.returns-clause-host
returns-clause-host g c = λ r node inside. tree_host _ _ inside r.runs

pub returns-clause-missing : goal.returns-clause-missing
returns-clause-missing g c = λ r node inside fault begun small. tree_unfound _ _ inside fault r.runs begun small
