use Rattle.rhd_laws.proofs.TreeLaws.{runs_many, runs_requests, runs_alone, runs_constant}
use Rattle.rhd_laws.proofs.calls.the_children_of_a_node_are_its_requests.Goals as goal

pub returns-clause-shown : goal.returns-clause-shown
returns-clause-shown g c = λ r pick h. runs_requests _ _ pick r.runs h

pub returns-clause-alone : goal.returns-clause-alone
returns-clause-alone g c = λ r h. runs_alone _ _ r.runs h

pub returns-clause-as_many : goal.returns-clause-as_many
returns-clause-as_many g c = λ r. runs_many _ _ r.runs

pub returns-clause-constant : goal.returns-clause-constant
returns-clause-constant g c = λ r pick h on. runs_constant _ _ pick r.runs h on
