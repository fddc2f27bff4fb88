use Rattle.rhd_laws.proofs.NodeEnds.{constant_exactly, constant_shown}
use Rattle.rhd_laws.proofs.calls.a_constant_ends_the_call.Goals as goal

pub returns-clause-ends : goal.returns-clause-ends
returns-clause-ends g c = λ r name pos begun. constant_exactly _ _ name pos r.runs begun

pub returns-clause-shown : goal.returns-clause-shown
returns-clause-shown g c = λ r pick begun unrefused first on. constant_shown _ _ pick r.runs begun unrefused first on
