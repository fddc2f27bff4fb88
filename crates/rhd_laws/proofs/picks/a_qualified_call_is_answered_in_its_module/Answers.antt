use Rattle.rhd_laws.proofs.FirstAnswered.{picked_exactly}
use Rattle.rhd_laws.proofs.Refusals.{unrefused_root}
use Rattle.rhd_laws.proofs.Roots.{root_exactly}
use Rattle.rhd_laws.proofs.QualifiedAnswers.{answered_exactly, unanswered_exactly}
use Rattle.rhd_laws.proofs.picks.a_qualified_call_is_answered_in_its_module.Goals as goal

pub returns-clause-begins : goal.returns-clause-begins
returns-clause-begins c = λ e f path place. root_exactly e f path place

pub returns-clause-unrefused : goal.returns-clause-unrefused
returns-clause-unrefused c = λ e f level call path search h. unrefused_root e f level call path search h

pub returns-clause-answered : goal.returns-clause-answered
returns-clause-answered c = λ e f call path place pick search root. answered_exactly e f call path place pick search root

pub returns-clause-unanswered : goal.returns-clause-unanswered
returns-clause-unanswered c = λ e f call path place search root. unanswered_exactly e f call path place search root

pub returns-clause-shown : goal.returns-clause-shown
returns-clause-shown c = λ e f level call path place pick search root.
    (let r = picked_exactly e f level call pick in
    let a = answered_exactly e f call path place pick search root in
    (λ h. ((r.0 h).0, a.0 (r.0 h).1), λ h. r.1 (h.0, a.1 h.1)))
