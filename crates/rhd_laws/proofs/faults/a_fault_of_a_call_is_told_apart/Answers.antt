use Rattle.rhd_laws.proofs.OwnedFaults.{own_fault_is, own_number, own_refused, others_refuse, function_fails, host_fails}
use Rattle.rhd_laws.proofs.faults.a_fault_of_a_call_is_told_apart.Goals as goal

pub returns-clause-own : goal.returns-clause-own
returns-clause-own g c = λ r node inside h. own_fault_is _ _ inside r.runs h

pub returns-clause-number : goal.returns-clause-number
returns-clause-number g c = λ r node fault inside h. own_number _ _ inside fault r.runs h

pub returns-clause-refused : goal.returns-clause-refused
returns-clause-refused g c = λ r node fault inside h. own_refused _ _ inside fault r.runs h

pub returns-clause-others : goal.returns-clause-others
returns-clause-others g c = λ r node inside h. others_refuse _ _ inside r.runs h

pub returns-clause-function : goal.returns-clause-function
returns-clause-function g c = λ r node inside fault. function_fails _ _ inside fault r.runs

pub returns-clause-host : goal.returns-clause-host
returns-clause-host g c = λ r node inside fault. host_fails _ _ inside fault r.runs
