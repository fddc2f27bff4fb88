-- Whose the answer of a call is, and which calls aren't found.
use Rattle.std.proofs.Common.{◌≡◌, ℕ, ◌≤◌, Bool, true, false, [], refl, sym, ap, ◌∙◌, subst, arith}
use Rattle.std.specs.Prelude.{◌↔◌, Option, None, Err}
use Rattle.rhd_value.specs.declared.fault.EvalAltResult.{EvalAltResult}
use Rattle.rhd_func.specs.declared.request.CallRequest.{CallRequest}
use Rattle.rhd_func.specs.declared.request.HostAnswer.{HostAnswer}
use Rattle.rhd_func.specs.declared.request.HostAnswer.TheVariants.{Nothing}
use Rattle.rhd_func.specs.declared.request.NativeStep.{NativeStep}
use Rattle.rhd_func.specs.Shapes.{given}
use Rattle.rhd_engine.specs.Engine.{EngineLists, Frame}
use Rattle.rhd_machine.specs.World.{World, Objects, Moment}
use Rattle.rhd_call.specs.End.{End, failed}
use Rattle.rhd_call.specs.declared.node.CallNode.{CallNode}
use Rattle.rhd_call.specs.declared.node.Whose.{Whose}
use Rattle.rhd_call.specs.declared.node.Whose.TheVariants.{Call, Called, Host}
use Rattle.rhd_call.specs.declared.pick.Pick.{Pick}
use Rattle.rhd_machine.specs.Plans.{Plan, plan_of}
use Rattle.rhd_machine.specs.Ends.{host_end, missing_fault, missing_end}
use Rattle.rhd_machine.specs.Decisions.{decision}
use Rattle.rhd_machine.specs.Decisions as decisions
use Rattle.rhd_laws.specs.FirstAsks.{EndsAlone, is_refused, isnt_found, on_constant}
use Rattle.rhd_laws.specs.Hosts.{HostEnds}
use Rattle.rhd_laws.specs.Causes.{IsOwn}
use Rattle.rhd_laws.specs.Owners.{IsHosts, hosts_value, hosts_fault, IsAnsweredByHost, IsFunctions, own_value, own_fault, IsAnsweredByFunction}
use Rattle.rhd_laws.specs.Unfound.{fault_number as number, AllFail, and_no_host, and_host, IsUnfound}
use Rattle.rhd_call.specs.Seen.{Seen, seen, begun_node}
use Rattle.rhd_machine.specs.Runs.{Runs, not_begun, ended, host_answered, finished, cut_short}
use Rattle.rhd_call.specs.Trees.{InTree}
use Rattle.rhd_machine.specs.Trees.{frame_at}
use Rattle.rhd_laws.proofs.FirstAnswered.{ends_missing, missing_ends, asks_first, first_asks, host_ends}
use Rattle.rhd_laws.proofs.LastSteps.{EndsBy, fails, is_large, is_other, fits, ends_by}
use Rattle.rhd_laws.proofs.HostEnds.{HostSays, says_nothing, says_fault, says_other, says_value, host_says}
use Rattle.rhd_laws.proofs.NodeEnds.{plan_given, not_own, no_fault, no_other, ShowsEnd, isnt_begun, is_deep, is_locked, is_rootless, is_missing, by_host, is_constant, has_ended, was_cut, runs_end}
use Rattle.rhd_laws.proofs.Refusals.{Refused, for_level, for_lock, for_path, refused}
use Rattle.rhd_laws.proofs.TreeLaws.{tree_runs}

-- an end isn't of two owners
not_both : (end : End) {a b : Whose} → end.whose ≡ a → end.whose ≡ b → (a ≡ b → ⊥) → ⊥
not_both end h k n = n (sym h ∙ k)

call_host : Call ≡ Host → ⊥
call_host h = absurd cc

call_called : Call ≡ Called → ⊥
call_called h = absurd cc

called_host : Called ≡ Host → ⊥
called_host h = absurd cc

host_called : Host ≡ Called → ⊥
host_called h = absurd cc

-- a refused call ends with a fault of its own
refused_whose : {e : EngineLists} {f : Frame} {level : ℕ} {call : CallRequest} {end : End} → Refused e f level call end → end.whose ≡ Call
refused_whose (for_level deep h) = ap (λ (x : End). x.whose) h
refused_whose (for_lock n l unqualified place h) = ap (λ (x : End). x.whose) h
refused_whose (for_path path l search none h) = ap (λ (x : End). x.whose) h

-- so does a call for which nothing runs
alone_whose : {e : EngineLists} {f : Frame} {level : ℕ} {call : CallRequest} {pick : Option Pick} {end : End} → EndsAlone e f level call pick end → end.whose ≡ Call
alone_whose {e = e} {f = f} {level = level} {call = call} {end = end} (is_refused none u) = refused_whose (refused e f level call end u)
alone_whose (isnt_found none u only m un) = ap (λ (x : End). x.whose) m
alone_whose (on_constant own some u first on m) = ap (λ (x : End). x.whose) m

-- how it ends where it isn't found
refused_found : {e : EngineLists} {f : Frame} {level : ℕ} {call : CallRequest} (end : End) {fault : EvalAltResult} → Refused e f level call end → end.answer ≡ Err fault → number fault ≤ 4 → ⊥
refused_found end (for_level deep h) a l = no_fault end (ap (λ (x : End). x.answer) h) a (λ q. absurd (omega (arith, q, l)))
refused_found end (for_lock n k unqualified place h) a l = no_fault end (ap (λ (x : End). x.answer) h) a (λ q. absurd (omega (arith, q, l)))
refused_found end (for_path path k search none h) a l = no_fault end (ap (λ (x : End). x.answer) h) a (λ q. absurd (omega (arith, q, l)))

-- a last step whose value or fault is the answer, and that alone
last_called : {e : EngineLists} {plan : Plan} {pick : Pick} {last : NativeStep} {end : End} → EndsBy e plan pick last end → end.whose ≡ Called → IsFunctions e.printers plan pick last end.answer
last_called (fails fault back is e) h = own_fault fault back is (ap (λ (x : End). x.answer) e)
last_called {end = end} (is_large v back what is l e) h = absurd (not_both end (ap (λ (x : End). x.whose) e) h call_called)
last_called {end = end} (is_other v made back wanted is within other e) h = absurd (not_both end (ap (λ (x : End). x.whose) e) h call_called)
last_called (fits v made back is within printable makes wanted e) h = own_value v made back is makes (ap (λ (x : End). x.answer) e)

called_last : {e : EngineLists} {plan : Plan} {pick : Pick} {last : NativeStep} {end : End} → EndsBy e plan pick last end → IsFunctions e.printers plan pick last end.answer → end.whose ≡ Called
called_last (fails fault back is e) h = ap (λ (x : End). x.whose) e
called_last (is_large v back what is l e) (own_value u other_made back' is' makes' a) = let q = sym (ap (λ (x : End). x.answer) e) ∙ a in absurd cc
called_last (is_large v back what is l e) (own_fault fault back' is' a) = let q = sym is ∙ is' in absurd cc
called_last (is_other v made back wanted is within other e) (own_value u other_made back' is' makes' a) = let q = sym (ap (λ (x : End). x.answer) e) ∙ a in absurd cc
called_last (is_other v made back wanted is within other e) (own_fault fault back' is' a) = let q = sym is ∙ is' in absurd cc
called_last (fits v made back is within printable makes wanted e) h = ap (λ (x : End). x.whose) e

last_host : {e : EngineLists} {plan : Plan} {pick : Pick} {last : NativeStep} {end : End} → EndsBy e plan pick last end → end.whose ≡ Host → ⊥
last_host {end = end} (fails fault back is e) h = not_both end (ap (λ (x : End). x.whose) e) h called_host
last_host {end = end} (is_large v back what is l e) h = not_both end (ap (λ (x : End). x.whose) e) h call_host
last_host {end = end} (is_other v made back wanted is within other e) h = not_both end (ap (λ (x : End). x.whose) e) h call_host
last_host {end = end} (fits v made back is within printable makes wanted e) h = not_both end (ap (λ (x : End). x.whose) e) h called_host

-- what the host gave is the answer exactly where that is the host's
says_host : {e : EngineLists} {plan : Plan} {gave : HostAnswer} {end : End} → HostSays e plan gave end → end.whose ≡ Host → IsHosts gave end.answer
says_host {end = end} (says_nothing is e) h = absurd (not_both end (ap (λ (x : End). x.whose) e) h call_host)
says_host (says_fault fault is e) h = hosts_fault fault is (ap (λ (x : End). x.answer) e)
says_host {end = end} (says_other v kind is other e) h = absurd (not_both end (ap (λ (x : End). x.whose) e) h call_host)
says_host (says_value v is e) h = hosts_value v is (ap (λ (x : End). x.answer) e)

host_whose : {e : EngineLists} {plan : Plan} {gave : HostAnswer} {end : End} → HostSays e plan gave end → IsHosts gave end.answer → end.whose ≡ Host
host_whose (says_nothing is e) (hosts_value v is' a) = let q = sym is ∙ is' in absurd cc
host_whose (says_nothing is e) (hosts_fault fault is' a) = let q = sym is ∙ is' in absurd cc
host_whose (says_fault fault is e) h = ap (λ (x : End). x.whose) e
host_whose (says_other v kind is other e) (hosts_value u is' a) = let q = sym (ap (λ (x : End). x.answer) e) ∙ a in absurd cc
host_whose (says_other v kind is other e) (hosts_fault fault is' a) = let q = sym is ∙ is' in absurd cc
host_whose (says_value v is e) h = ap (λ (x : End). x.whose) e

pub not_called : {e : EngineLists} {plan : Plan} {gave : HostAnswer} {end : End} → HostSays e plan gave end → end.whose ≡ Called → ⊥
not_called {end = end} (says_nothing is e) h = not_both end (ap (λ (x : End). x.whose) e) h call_called
not_called {end = end} (says_fault fault is e) h = not_both end (ap (λ (x : End). x.whose) e) h host_called
not_called {end = end} (says_other v kind is other e) h = not_both end (ap (λ (x : End). x.whose) e) h call_called
not_called {end = end} (says_value v is e) h = not_both end (ap (λ (x : End). x.whose) e) h host_called

-- the host gave nothing exactly where the call isn't found
says_unfound : {e : EngineLists} {plan : Plan} {gave : HostAnswer} {end : End} {fault : EvalAltResult} → HostSays e plan gave end → IsOwn end fault → number fault ≤ 4
    → (gave ≡ Nothing) × (fault ≡ missing_fault e plan plan.search)
says_unfound {end = end} (says_nothing is e) h l = (is, not_own end (ap (λ (x : End). x.answer) e) h.1)
says_unfound {end = end} (says_fault fault is e) h l = absurd (not_both end h.0 (ap (λ (x : End). x.whose) e) call_host)
says_unfound {end = end} (says_other v kind is other e) h l = absurd (no_fault end (ap (λ (x : End). x.answer) e) h.1 (λ q. absurd (omega (arith, q, l))))
says_unfound {end = end} (says_value v is e) h l = absurd (not_both end h.0 (ap (λ (x : End). x.whose) e) call_host)

nothing_missing : (e : EngineLists) (call : CallRequest) (end : End) → end ≡ host_end e (plan_of call) Nothing → end ≡ missing_end e (plan_of call)
unfolding host_end
nothing_missing e call end h = h

missing_is : (e : EngineLists) (call : CallRequest) (fault : EvalAltResult) → fault ≡ missing_fault e (plan_of call) (plan_of call).search → missing_end e (plan_of call) ≡ failed (given call) fault
missing_is e call fault says = (λ i. failed (plan_given call i) (sym says i))

module _ {H B : Type 0} (o : Objects H B) (w : World) where
  host_only : {f : Frame} {level : ℕ} {call : CallRequest} {node : CallNode} {before after : Moment H B} {cut : Bool} → Runs o w f level call node before after cut → (seen node).end.whose ≡ Host
      → IsAnsweredByHost o w.engine f level call before.host after.host (seen node).end
  host_only {node = node} (not_begun b s) h = absurd (not_both (seen node).end (ap (λ (x : Seen). x.end.whose) s) h call_host)
  host_only {node = node} (ended {f = f} {level = level} {call = call} {pick = pick} {end = end} b d s) h =
      absurd (not_both (seen node).end (ap (λ (x : Seen). x.end.whose) s ∙ alone_whose (ends_missing w.engine f level call pick end d)) h call_host)
  host_only {node = node} (host_answered {f = f} {level = level} {call = call} {before = before} {plan = plan} {answer = answer} {host = host} b d a s) h =
      let r = asks_first w.engine f level call plan d in
      let asked = host_ends o w.engine call plan before.host answer host r.0 a (ap (λ (x : Seen). x.end) s) in
      record { asked = r.1; gave = answer; ended = asked; shown = says_host (host_says w.engine (plan_of call) answer (seen node).end asked.ends) h }
  host_only {node = node} (finished {plan = plan} {pick = pick} {last = last} {end = end} b d starts steps e s) h = absurd (last_host (ends_by w.engine plan pick last end e) (sym (ap (λ (x : Seen). x.end.whose) s) ∙ h))
  host_only {node = node} (cut_short b d starts steps r s) h = absurd (not_both (seen node).end (ap (λ (x : Seen). x.end.whose) s) h call_host)

  host_back : {f : Frame} {level : ℕ} {call : CallRequest} {from to : H} {end : End} → IsAnsweredByHost o w.engine f level call from to end → end.whose ≡ Host
  host_back {call = call} {end = end} h = host_whose (host_says w.engine (plan_of call) h.gave end h.ended.ends) h.shown

  -- an answer is the host's exactly where the host was asked, and its value or fault is the answer
  pub host_exactly : {f : Frame} {level : ℕ} {call : CallRequest} {node : CallNode} {before after : Moment H B} {cut : Bool} → Runs o w f level call node before after cut
      → ((seen node).end.whose ≡ Host) ↔ IsAnsweredByHost o w.engine f level call before.host after.host (seen node).end
  host_exactly r = (host_only r, host_back)

  called_only : {f : Frame} {level : ℕ} {call : CallRequest} {node : CallNode} {cut : Bool} → ShowsEnd o w f level call node cut → (seen node).end.whose ≡ Called → IsAnsweredByFunction o w f (seen node)
  called_only {node = node} (isnt_begun s) h = absurd (not_both (seen node).end (ap (λ (x : Seen). x.end.whose) s) h call_called)
  called_only {node = node} (is_deep deep s) h = absurd (not_both (seen node).end (ap (λ (x : Seen). x.end.whose) s) h call_called)
  called_only {node = node} (is_locked n l unqualified place s) h = absurd (not_both (seen node).end (ap (λ (x : Seen). x.end.whose) s) h call_called)
  called_only {node = node} (is_rootless path l search none s) h = absurd (not_both (seen node).end (ap (λ (x : Seen). x.end.whose) s) h call_called)
  called_only {node = node} (is_missing l none s) h = absurd (not_both (seen node).end (ap (λ (x : Seen). x.end.whose) s) h call_called)
  called_only (by_host from to answer l none c asked alone says) h = absurd (not_called says h)
  called_only {node = node} (is_constant own l none u first on s) h = absurd (not_both (seen node).end (ap (λ (x : Seen). x.end.whose) s) h call_called)
  called_only (has_ended pick last l none c came by) h = record { pick = pick; last = last; ended = came; shown = last_called by h }
  called_only {node = node} (was_cut pick c l none begun shown e) h = absurd (not_both (seen node).end (ap (λ (x : End). x.whose) e) h call_called)

  called_back : {f : Frame} (node : Seen) → IsAnsweredByFunction o w f node → node.end.whose ≡ Called
  called_back node h = called_last (ends_by w.engine (plan_of node.call) h.pick h.last node.end h.ended.ends) h.shown

  -- and its function's exactly where what that gave is the answer
  pub called_exactly : {f : Frame} {level : ℕ} {call : CallRequest} {node : CallNode} {before after : Moment H B} {cut : Bool} → Runs o w f level call node before after cut
      → ((seen node).end.whose ≡ Called) ↔ IsAnsweredByFunction o w f (seen node)
  called_exactly {node = node} r = (called_only (runs_end o w r), called_back (seen node))

  -- a call isn't found where nothing refuses it and all three fail
  alone_fails : {f : Frame} {level : ℕ} {call : CallRequest} {pick : Option Pick} {end : End} {fault : EvalAltResult} (from to : H) → EndsAlone w.engine f level call pick end → end.answer ≡ Err fault
      → number fault ≤ 4 → IsUnfound o w.engine f level call from to end fault
  alone_fails {f = f} {level = level} {call = call} {end = end} from to (is_refused none u) a l = absurd (refused_found end (refused w.engine f level call end u) a l)
  alone_fails {end = end} from to (isnt_found none u only m un) a l = record { all_fail = and_no_host u only un; says = not_own end (ap (λ (x : End). x.answer) m) a }
  alone_fails {end = end} from to (on_constant own some u first on m) a l = absurd (no_fault end (ap (λ (x : End). x.answer) m) a (λ q. absurd (omega (arith, q, l))))

  unfound_only : {f : Frame} {level : ℕ} {call : CallRequest} {node : CallNode} {before after : Moment H B} {cut : Bool} (fault : EvalAltResult) → Runs o w f level call node before after cut
      → (seen node).begun ≡ true → number fault ≤ 4 → IsOwn (seen node).end fault
      → IsUnfound o w.engine f level call before.host after.host (seen node).end fault
  unfound_only fault (not_begun b s) begun l h = let q : false ≡ true = sym (ap (λ (x : Seen). x.begun) s) ∙ begun in absurd cc
  unfound_only {node = node} fault (ended {f = f} {level = level} {call = call} {before = before} {pick = pick} {end = end} b d s) begun l h =
      alone_fails before.host before.host (subst (EndsAlone w.engine f level call pick) (sym (ap (λ (x : Seen). x.end) s)) (ends_missing w.engine f level call pick end d)) h.1 l
  unfound_only {node = node} fault (host_answered {f = f} {level = level} {call = call} {before = before} {plan = plan} {answer = answer} {host = host} b d a s) begun l h =
      let r = asks_first w.engine f level call plan d in
      let asked = host_ends o w.engine call plan before.host answer host r.0 a (ap (λ (x : Seen). x.end) s) in
      let k = says_unfound (host_says w.engine (plan_of call) answer (seen node).end asked.ends) h l in
      record { all_fail = and_host r.1 (subst (λ (x : HostAnswer). HostEnds o w.engine call before.host x host (seen node).end) k.0 asked); says = k.1 }
  unfound_only fault (finished {plan = plan} {pick = pick} {last = last} {end = end} b d starts steps e s) begun l h =
      absurd (no_other o w end fault (ends_by w.engine plan pick last end e) (λ q. absurd (omega (arith, q, l))) (λ q. absurd (omega (arith, q, l))) (sym (ap (λ (x : Seen). x.end.whose) s) ∙ h.0, sym (ap (λ (x : Seen). x.end.answer) s) ∙ h.1))
  unfound_only {node = node} fault (cut_short b d starts steps r s) begun l h = absurd (no_fault (seen node).end (ap (λ (x : Seen). x.end.answer) s) h.1 (λ q. absurd (omega (arith, q, l))))

  -- what such a call shows
  ends_shown : {f : Frame} {level : ℕ} {call : CallRequest} {node : CallNode} {before after : Moment H B} {cut : Bool} (end : End) → Runs o w f level call node before after cut
      → (seen node).begun ≡ true → decision w.engine f level call ≡ decisions.ends None end → seen node ≡ begun_node call level None [] [] end
  ends_shown end (not_begun b s) begun m = let q : false ≡ true = sym (ap (λ (x : Seen). x.begun) s) ∙ begun in absurd cc
  ends_shown end (ended {level = level} {call = call} {pick = pick} {end = own} b d s) begun m =
      let q : decisions.ends pick own ≡ decisions.ends None end = sym d ∙ m in
      let none : pick ≡ None = cc in
      let same : own ≡ end = cc in
      s ∙ (λ i. begun_node call level (none i) [] [] (same i))
  ends_shown end (host_answered {plan = plan} b d a s) begun m = let q : decisions.asks_host plan ≡ decisions.ends None end = sym d ∙ m in absurd cc
  ends_shown end (finished {plan = plan} {pick = pick} b d starts steps e s) begun m = let q : decisions.runs plan pick ≡ decisions.ends None end = sym d ∙ m in absurd cc
  ends_shown end (cut_short {plan = plan} {pick = pick} b d starts steps r s) begun m = let q : decisions.runs plan pick ≡ decisions.ends None end = sym d ∙ m in absurd cc

  host_shown : {f : Frame} {level : ℕ} {call : CallRequest} {node : CallNode} {before after : Moment H B} {cut : Bool} (other : Plan) → Runs o w f level call node before after cut
      → (seen node).begun ≡ true → decision w.engine f level call ≡ decisions.asks_host other → seen node ≡ begun_node call level None [] [] (seen node).end
  host_shown other (not_begun b s) begun m = let q : false ≡ true = sym (ap (λ (x : Seen). x.begun) s) ∙ begun in absurd cc
  host_shown other (ended {pick = pick} {end = end} b d s) begun m = let q : decisions.ends pick end ≡ decisions.asks_host other = sym d ∙ m in absurd cc
  host_shown other (host_answered {level = level} {call = call} b d a s) begun m = s ∙ ap (λ (x : End). begun_node call level None [] [] x) (sym (ap (λ (x : Seen). x.end) s))
  host_shown other (finished {plan = plan} {pick = pick} b d starts steps e s) begun m = let q : decisions.runs plan pick ≡ decisions.asks_host other = sym d ∙ m in absurd cc
  host_shown other (cut_short {plan = plan} {pick = pick} b d starts steps r s) begun m = let q : decisions.runs plan pick ≡ decisions.asks_host other = sym d ∙ m in absurd cc

  fails_shown : {f : Frame} {level : ℕ} {call : CallRequest} {node : CallNode} {before after : Moment H B} {cut : Bool} {from to : H} → Runs o w f level call node before after cut
      → (seen node).begun ≡ true → AllFail o w.engine f level call from to (seen node).end → seen node ≡ begun_node call level None [] [] (missing_end w.engine (plan_of call))
  fails_shown {f = f} {level = level} {call = call} r begun (and_no_host u only un) = ends_shown (missing_end w.engine (plan_of call)) r begun (missing_ends w.engine f level call None (missing_end w.engine (plan_of call)) (isnt_found refl u only refl un))
  fails_shown {f = f} {level = level} {call = call} {node = node} r begun (and_host asked answers) =
      host_shown (plan_of call) r begun (first_asks w.engine f level call (plan_of call) (refl, asked)) ∙ ap (λ (x : End). begun_node call level None [] [] x) (nothing_missing w.engine call (seen node).end answers.ends)

  pub unfound_shown : {f : Frame} {level : ℕ} {call : CallRequest} {node : CallNode} {before after : Moment H B} {cut : Bool} {from to : H} (fault : EvalAltResult)
      → Runs o w f level call node before after cut → (seen node).begun ≡ true → IsUnfound o w.engine f level call from to (seen node).end fault
      → seen node ≡ begun_node call level None [] [] (failed (given call) fault)
  unfound_shown {level = level} {call = call} fault r begun h = fails_shown r begun h.all_fail ∙ ap (λ (x : End). begun_node call level None [] [] x) (missing_is w.engine call fault h.says)

  unfound_back : {f : Frame} {level : ℕ} {call : CallRequest} {node : CallNode} {before after : Moment H B} {cut : Bool} {from to : H} (fault : EvalAltResult)
      → Runs o w f level call node before after cut → (seen node).begun ≡ true → IsUnfound o w.engine f level call from to (seen node).end fault
      → IsOwn (seen node).end fault
  unfound_back fault r begun h =
      let s = unfound_shown fault r begun h in
      (ap (λ (x : Seen). x.end.whose) s, ap (λ (x : Seen). x.end.answer) s)

  pub unfound_exactly : {f : Frame} {level : ℕ} {call : CallRequest} {node : CallNode} {before after : Moment H B} {cut : Bool} (fault : EvalAltResult) → Runs o w f level call node before after cut
      → (seen node).begun ≡ true → number fault ≤ 4
      → IsOwn (seen node).end fault ↔ IsUnfound o w.engine f level call before.host after.host (seen node).end fault
  unfound_exactly fault r begun l = (unfound_only fault r begun l, unfound_back fault r begun)

  -- the same of each call of a tree
  pub tree_host : {node root : CallNode} (inside : InTree node root) {f : Frame} {level : ℕ} {call : CallRequest} {before after : Moment H B} {cut : Bool} → Runs o w f level call root before after cut →
      ((seen node).end.whose ≡ Host) ↔ ((from : H) × (to : H) × IsAnsweredByHost o w.engine (frame_at w f inside) (seen node).level (seen node).call from to (seen node).end)
  tree_host inside r = let own = tree_runs o w inside r in (λ h. (own.0.host, own.1.host, host_only own.3 h), λ h. host_back h.2)

  pub tree_unfound : {node root : CallNode} (inside : InTree node root) {f : Frame} {level : ℕ} {call : CallRequest} {before after : Moment H B} {cut : Bool} (fault : EvalAltResult)
      → Runs o w f level call root before after cut → (seen node).begun ≡ true → number fault ≤ 4 →
      IsOwn (seen node).end fault ↔ ((from : H) × (to : H) × IsUnfound o w.engine (frame_at w f inside) (seen node).level (seen node).call from to (seen node).end fault)
  tree_unfound inside fault r begun l = let own = tree_runs o w inside r in (λ h. (own.0.host, own.1.host, unfound_only fault own.3 begun l h), λ h. unfound_back fault own.3 begun h.2)
