use Rattle.rhd_call.specs.Seen.{seen}
use Rattle.rhd_machine.specs.Plans.{plan_of}
use Rattle.rhd_machine.specs.Trees.{frame_at}
use Rattle.rhd_laws.proofs.TreeFaults.{tree_picked}
use Rattle.rhd_laws.proofs.Owned.{tree_host, tree_unfound}
use Rattle.rhd_laws.proofs.PickCalls.{first_match}
use Rattle.rhd_laws.proofs.PickAnswers.{match_first, unanswered_exactly, not_found_unanswered, hosts_unqualified}
use Rattle.rhd_laws.proofs.QualifiedAnswers.{answered_exactly}
use Rattle.rhd_laws.proofs.QualifiedAnswers.{unanswered_exactly as unanswered_in}
use Rattle.rhd_laws.proofs.picks.each_call_of_a_tree_shows_its_first_match.Goals as goal

pub returns-clause-shown : goal.returns-clause-shown
returns-clause-shown g c = λ r node inside pick begun unqualified.
    (let t = tree_picked _ _ inside pick r.runs begun in
    (λ h. ((t.0 h).0, first_match _ (frame_at r.world r.frame inside) (seen node).call pick unqualified (t.0 h).1), λ h. t.1 (h.0, match_first _ (frame_at r.world r.frame inside) (seen node).call pick unqualified h.1)))

pub returns-clause-host : goal.returns-clause-host
returns-clause-host g c = λ r node inside h.
    (let asked = ((tree_host _ _ inside r.runs).0 h).2.asked in (unanswered_exactly _ (frame_at r.world r.frame inside) (seen node).call (hosts_unqualified (plan_of (seen node).call).search asked.scripts)).0 asked.unanswered)

pub returns-clause-missing : goal.returns-clause-missing
returns-clause-missing g c = λ r node inside fault begun small h unqualified.
    (unanswered_exactly _ (frame_at r.world r.frame inside) (seen node).call unqualified).0 (not_found_unanswered ((tree_unfound _ _ inside fault r.runs begun small).0 h).2.all_fail)

pub returns-clause-qualified : goal.returns-clause-qualified
returns-clause-qualified g c = λ r node inside path place pick begun search root.
    (let t = tree_picked _ _ inside pick r.runs begun in
    let a = answered_exactly _ (frame_at r.world r.frame inside) (seen node).call path place pick search root in
    (λ h. ((t.0 h).0, a.0 (t.0 h).1), λ h. t.1 (h.0, a.1 h.1)))

pub returns-clause-missing_in : goal.returns-clause-missing_in
returns-clause-missing_in g c = λ r node inside fault path place begun small h search root.
    (unanswered_in _ (frame_at r.world r.frame inside) (seen node).call path place search root).0 (not_found_unanswered ((tree_unfound _ _ inside fault r.runs begun small).0 h).2.all_fail)
