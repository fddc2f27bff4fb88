use Rattle.rhd_laws.proofs.FirstAnswered.{shows_first, shows_missing, shows_unbegun}
use Rattle.rhd_laws.proofs.calls.a_node_shows_the_first_declaration.Goals as goal

pub returns-clause-shown : goal.returns-clause-shown
returns-clause-shown g c = λ r pick shown. shows_first pick r.runs shown

pub returns-clause-alone : goal.returns-clause-alone
returns-clause-alone g c = λ r begun shown. shows_missing r.runs begun shown

pub returns-clause-unbegun : goal.returns-clause-unbegun
returns-clause-unbegun g c = λ r shown. shows_unbegun r.runs shown
