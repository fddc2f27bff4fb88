use Rattle.rhd_laws.proofs.Owned.{host_exactly, called_exactly}
use Rattle.rhd_laws.proofs.calls.a_call_says_whose_its_answer_is.Goals as goal

pub returns-clause-host : goal.returns-clause-host
returns-clause-host g c = λ r. host_exactly _ _ r.runs

pub returns-clause-function : goal.returns-clause-function
returns-clause-function g c = λ r. called_exactly _ _ r.runs
