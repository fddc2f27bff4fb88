use Rattle.rhd_machine.specs.Plans.{plan_of}
use Rattle.rhd_laws.proofs.ReceivedPlaces.{place_copied, place_given, first_exactly, copy_writable}
use Rattle.rhd_laws.proofs.arguments.a_function_receives_its_arguments.Goals as goal

pub returns-clause-copy : goal.returns-clause-copy
returns-clause-copy c = λ e call pick value copy h. place_copied e.natives pick.func (plan_of call).shape value copy h

pub returns-clause-writable : goal.returns-clause-writable
returns-clause-writable c = λ value. copy_writable value

pub returns-clause-given : goal.returns-clause-given
returns-clause-given c = λ e call pick n none. place_given e.natives pick.func (plan_of call).shape n none

pub returns-clause-itself : goal.returns-clause-itself
returns-clause-itself c = λ e call pick value. first_exactly e.natives pick.func (plan_of call).shape value
