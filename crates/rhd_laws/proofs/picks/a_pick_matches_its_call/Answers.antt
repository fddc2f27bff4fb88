use Rattle.rhd_machine.specs.Received.{convention_of}
use Rattle.rhd_laws.proofs.FirstAnswered.{picked_exactly}
use Rattle.rhd_laws.proofs.PickCalls.{first_match}
use Rattle.rhd_laws.proofs.PickAnswers.{match_first, unanswered_exactly, receives}
use Rattle.rhd_laws.proofs.picks.a_pick_matches_its_call.Goals as goal

pub returns-clause-answered : goal.returns-clause-answered
returns-clause-answered c = λ e f call pick unqualified. (first_match e f call pick unqualified, match_first e f call pick unqualified)

pub returns-clause-unanswered : goal.returns-clause-unanswered
returns-clause-unanswered c = λ e f call unqualified. unanswered_exactly e f call unqualified

pub returns-clause-shown : goal.returns-clause-shown
returns-clause-shown c = λ e f level call pick unqualified.
    (let r = picked_exactly e f level call pick in (λ h. ((r.0 h).0, first_match e f call pick unqualified (r.0 h).1), λ h. r.1 (h.0, match_first e f call pick unqualified h.1)))

pub returns-clause-receives : goal.returns-clause-receives
returns-clause-receives c = λ e f call name types pick m. receives e call name types (convention_of e.natives pick.func) m.matches
