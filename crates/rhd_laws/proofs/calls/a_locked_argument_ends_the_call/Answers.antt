use Rattle.rhd_laws.proofs.Locked.{place_exactly}
use Rattle.rhd_laws.proofs.NodeEnds.{runs_end, race_exactly, race_shown}
use Rattle.rhd_laws.proofs.calls.a_locked_argument_ends_the_call.Goals as goal

pub returns-clause-place : goal.returns-clause-place
returns-clause-place g c = λ shape n. place_exactly shape n

pub returns-clause-ends : goal.returns-clause-ends
returns-clause-ends g c = λ r text pos begun. race_exactly _ _ text pos (runs_end _ _ r.runs) begun

pub returns-clause-shown : goal.returns-clause-shown
returns-clause-shown g c = λ r n begun l unqualified first. race_shown _ _ n (runs_end _ _ r.runs) begun l unqualified first
