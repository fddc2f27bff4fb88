-- Whose a fault is, and which faults are a call's own.
use Rattle.std.proofs.Common.{◌≡◌, ℕ, ◌≤◌, Bool, refl, sym, ap, ◌∙◌, subst, inl, inr, arith}
use Rattle.std.specs.Prelude.{◌↔◌, Option, None, Some, Result, Ok, Err}
use Rattle.rhd_value.specs.Tree.{Tree}
use Rattle.rhd_value.specs.declared.fault.EvalAltResult.{EvalAltResult}
use Rattle.rhd_func.specs.declared.request.CallRequest.{CallRequest}
use Rattle.rhd_func.specs.declared.request.HostAnswer.{HostAnswer}
use Rattle.rhd_func.specs.declared.request.HostAnswer.TheVariants.{Fault}
use Rattle.rhd_func.specs.declared.request.NativeStep.{NativeStep}
use Rattle.rhd_func.specs.declared.request.NativeStep.TheVariants.{Failed}
use Rattle.rhd_call.specs.End.{End, failed}
use Rattle.rhd_call.specs.Seen.{Seen, seen}
use Rattle.rhd_call.specs.Trees.{InTree}
use Rattle.rhd_call.specs.declared.node.CallNode.{CallNode}
use Rattle.rhd_call.specs.declared.node.Whose.TheVariants.{Call, Called, Host}
use Rattle.rhd_call.specs.declared.pick.Pick.{Pick}
use Rattle.rhd_engine.specs.Engine.{EngineLists, Frame}
use Rattle.rhd_machine.specs.Plans.{Plan, plan_of}
use Rattle.rhd_machine.specs.Ends.{missing_fault, missing_end}
use Rattle.rhd_machine.specs.Runs.{Runs}
use Rattle.rhd_machine.specs.Trees.{frame_at}
use Rattle.rhd_machine.specs.World.{World, Objects, Moment}
use Rattle.rhd_laws.specs.Causes.{IsOwn, EndsWith}
use Rattle.rhd_laws.specs.Hosts.{HostEnds}
use Rattle.rhd_laws.specs.Owners.{IsHosts, hosts_value, hosts_fault, IsAnsweredByHost, IsFunctions, own_value, own_fault}
use Rattle.rhd_laws.specs.OwnFaults.{IsOwnNumber, one_to_seven, nine_to_twelve, IsRefusing, FaultOf, FunctionFails, HostFails}
use Rattle.rhd_laws.specs.Unfound.{fault_number as number}
use Rattle.rhd_laws.proofs.HostEnds.{HostSays, says_nothing, says_fault, says_other, says_value, host_says}
use Rattle.rhd_laws.proofs.LastSteps.{EndsBy, fails, is_large, is_other, fits, ends_by}
use Rattle.rhd_laws.proofs.NodeEnds.{not_own, ShowsEnd, isnt_begun, is_deep, is_locked, is_rootless, is_missing, by_host, is_constant, has_ended, was_cut, runs_end}
use Rattle.rhd_laws.proofs.Owned.{called_exactly, host_exactly}
use Rattle.rhd_laws.proofs.TreeLaws.{tree_runs}
use Rattle.rhd_laws.proofs.UnfoundRows.{missing_number, missing_positive}

-- The owner of an end, and the value that it refuses.
data EndOf (end : End) : Type 0 where
  own_plain : (fault : EvalAltResult) → IsOwn end fault → IsOwnNumber (number fault) → (IsRefusing (number fault) → ⊥) → end.refused ≡ None → EndOf end
  own_refuses : (fault : EvalAltResult) (value : Tree) → IsOwn end fault → IsRefusing (number fault) → end.refused ≡ Some value → EndOf end
  is_called : end.whose ≡ Called → end.refused ≡ None → EndOf end
  is_hosts : end.whose ≡ Host → end.refused ≡ None → EndOf end

plain_end : (end : End) (first : Option Tree) (fault : EvalAltResult) → IsOwnNumber (number fault) → (IsRefusing (number fault) → ⊥) → end ≡ failed first fault → EndOf end
plain_end end first fault own plain e = own_plain fault (ap (λ (x : End). x.whose) e, ap (λ (x : End). x.answer) e) own plain (ap (λ (x : End). x.refused) e)

-- a number below 7, or 9 or 10, refuses no value
small_plain : (n : ℕ) → n ≤ 6 → IsRefusing n → ⊥
small_plain n l (inl h) = omega (arith, l, h)
small_plain n l (inr h) = omega (arith, l, h)

large_plain : (n : ℕ) → 9 ≤ n → n ≤ 10 → IsRefusing n → ⊥
large_plain n l m (inl h) = omega (arith, l, m, h)
large_plain n l m (inr h) = omega (arith, l, m, h)

small_end : (end : End) (first : Option Tree) (fault : EvalAltResult) → 1 ≤ number fault → number fault ≤ 6 → end ≡ failed first fault → EndOf end
small_end end first fault l m e = plain_end end first fault (one_to_seven l (omega (arith, m))) (small_plain (number fault) m) e

large_end : (end : End) (first : Option Tree) (fault : EvalAltResult) → 9 ≤ number fault → number fault ≤ 10 → end ≡ failed first fault → EndOf end
large_end end first fault l m e = plain_end end first fault (nine_to_twelve l (omega (arith, m))) (large_plain (number fault) l m) e

-- and so doesn't 12
rootless_plain : (n : ℕ) → n ≡ 12 → IsRefusing n → ⊥
rootless_plain n is (inl h) = omega (arith, is, h)
rootless_plain n is (inr h) = omega (arith, is, h)

rootless_of : (end : End) (first : Option Tree) (fault : EvalAltResult) → number fault ≡ 12 → end ≡ failed first fault → EndOf end
rootless_of end first fault is e = plain_end end first fault (nine_to_twelve (omega (arith, is)) (omega (arith, is))) (rootless_plain (number fault) is) e

missing_of : (e : EngineLists) (plan : Plan) (end : End) → end ≡ missing_end e plan → EndOf end
missing_of e plan end h = small_end end plan.given (missing_fault e plan plan.search) (missing_positive e plan plan.search) (omega (arith, missing_number e plan plan.search)) h

last_of : {e : EngineLists} {plan : Plan} {pick : Pick} {last : NativeStep} {end : End} → EndsBy e plan pick last end → EndOf end
last_of (fails fault back is h) = is_called (ap (λ (x : End). x.whose) h) (ap (λ (x : End). x.refused) h)
last_of (is_large v back what is l h) = own_refuses _ v (ap (λ (x : End). x.whose) h, ap (λ (x : End). x.answer) h) (inr refl) (ap (λ (x : End). x.refused) h)
last_of (is_other v made back wanted is within other h) = own_refuses _ made (ap (λ (x : End). x.whose) h, ap (λ (x : End). x.answer) h) (inl refl) (ap (λ (x : End). x.refused) h)
last_of (fits v made back is within printable makes wanted h) = is_called (ap (λ (x : End). x.whose) h) (ap (λ (x : End). x.refused) h)

hosts_of : {e : EngineLists} {plan : Plan} {answer : HostAnswer} {end : End} → HostSays e plan answer end → EndOf end
hosts_of {e} {plan} {end = end} (says_nothing is h) = missing_of e plan end h
hosts_of (says_fault fault is h) = is_hosts (ap (λ (x : End). x.whose) h) (ap (λ (x : End). x.refused) h)
hosts_of (says_other v kind is other h) = own_refuses _ v (ap (λ (x : End). x.whose) h, ap (λ (x : End). x.answer) h) (inl refl) (ap (λ (x : End). x.refused) h)
hosts_of (says_value v is h) = is_hosts (ap (λ (x : End). x.whose) h) (ap (λ (x : End). x.refused) h)

-- what an end says of a fault of its own
called_own : (end : End) {fault : EvalAltResult} → end.whose ≡ Called → IsOwn end fault → ⊥
called_own end e h = let q : Called ≡ Call = sym e ∙ h.0 in absurd cc

host_own : (end : End) {fault : EvalAltResult} → end.whose ≡ Host → IsOwn end fault → ⊥
host_own end e h = let q : Host ≡ Call = sym e ∙ h.0 in absurd cc

refusing_own : (n : ℕ) → IsRefusing n → IsOwnNumber n
refusing_own n (inl h) = one_to_seven (omega (arith, h)) (omega (arith, h))
refusing_own n (inr h) = nine_to_twelve (omega (arith, h)) (omega (arith, h))

number_of : (end : End) (fault : EvalAltResult) → EndOf end → IsOwn end fault → IsOwnNumber (number fault)
number_of end fault (own_plain own is numbered plain none) h = subst (λ (x : EvalAltResult). IsOwnNumber (number x)) (sym (not_own end is.1 h.1)) numbered
number_of end fault (own_refuses own value is refuses some) h = subst (λ (x : EvalAltResult). IsOwnNumber (number x)) (sym (not_own end is.1 h.1)) (refusing_own (number own) refuses)
number_of end fault (is_called e none) h = absurd (called_own end e h)
number_of end fault (is_hosts e none) h = absurd (host_own end e h)

fault_of : (end : End) → EndOf end → end.whose ≡ Call → (fault : EvalAltResult) × IsOwn end fault
fault_of end (own_plain fault is numbered plain none) h = (fault, is)
fault_of end (own_refuses fault value is refuses some) h = (fault, is)
fault_of end (is_called e none) h = let q : Called ≡ Call = sym e ∙ h in absurd cc
fault_of end (is_hosts e none) h = let q : Host ≡ Call = sym e ∙ h in absurd cc

some_none : (end : End) (value : Tree) → end.refused ≡ None → end.refused ≡ Some value → ⊥
some_none end value none some = let q : None ≡ Some value = sym none ∙ some in absurd cc

refused_of : (end : End) (fault : EvalAltResult) → EndOf end → IsOwn end fault → ((value : Tree) × (end.refused ≡ Some value)) ↔ IsRefusing (number fault)
refused_of end fault (own_plain own is numbered plain none) h = (λ some. absurd (some_none end some.0 none some.1), λ refuses. absurd (plain (subst (λ (x : EvalAltResult). IsRefusing (number x)) (not_own end is.1 h.1) refuses)))
refused_of end fault (own_refuses own value is refuses some) h = (λ _. subst (λ (x : EvalAltResult). IsRefusing (number x)) (sym (not_own end is.1 h.1)) refuses, λ _. (value, some))
refused_of end fault (is_called e none) h = absurd (called_own end e h)
refused_of end fault (is_hosts e none) h = absurd (host_own end e h)

kept_of : (end : End) → EndOf end → (end.whose ≡ Call → ⊥) → end.refused ≡ None
kept_of end (own_plain own is numbered plain none) other = absurd (other is.0)
kept_of end (own_refuses own value is refuses some) other = absurd (other is.0)
kept_of end (is_called e none) other = none
kept_of end (is_hosts e none) other = none

-- a step that fails hands its fault on
failed_last : {e : EngineLists} {plan : Plan} {pick : Pick} {last : NativeStep} {end : End} (fault : EvalAltResult) (back : Option Tree) → EndsBy e plan pick last end → last ≡ Failed fault back → FaultOf Called end fault
failed_last fault back (fails own given is h) same =
    let q : Failed own given ≡ Failed fault back = sym is ∙ same in
    let k : own ≡ fault = cc in (ap (λ (x : End). x.whose) h, ap (λ (x : End). x.answer) h ∙ ap Err k)
failed_last fault back (is_large v given what is l h) same = let q = sym is ∙ same in absurd cc
failed_last fault back (is_other v made given wanted is within other h) same = let q = sym is ∙ same in absurd cc
failed_last fault back (fits v made given is within printable makes wanted h) same = let q = sym is ∙ same in absurd cc

-- so does the host
fault_given : {e : EngineLists} {plan : Plan} {answer : HostAnswer} {end : End} (fault : EvalAltResult) → HostSays e plan answer end → answer ≡ Fault fault → FaultOf Host end fault
fault_given fault (says_nothing is h) same = let q = sym is ∙ same in absurd cc
fault_given fault (says_fault own is h) same =
    let q : Fault own ≡ Fault fault = sym is ∙ same in
    let k : own ≡ fault = cc in (ap (λ (x : End). x.whose) h, ap (λ (x : End). x.answer) h ∙ ap Err k)
fault_given fault (says_other v kind is other h) same = let q = sym is ∙ same in absurd cc
fault_given fault (says_value v is h) same = let q = sym is ∙ same in absurd cc

module _ {H B : Type 0} (o : Objects H B) (w : World) where
  end_of_node : {f : Frame} {level : ℕ} {call : CallRequest} {node : CallNode} {cut : Bool} → ShowsEnd o w f level call node cut → EndOf (seen node).end
  end_of_node {node = node} (isnt_begun s) = large_end (seen node).end _ _ (omega arith) (omega arith) (ap (λ (x : Seen). x.end) s)
  end_of_node {node = node} (is_deep deep s) = large_end (seen node).end _ _ (omega arith) (omega arith) (ap (λ (x : Seen). x.end) s)
  end_of_node {node = node} (is_locked n l unqualified place s) = small_end (seen node).end _ _ (omega arith) (omega arith) (ap (λ (x : Seen). x.end) s)
  end_of_node {node = node} (is_rootless path l search none s) = rootless_of (seen node).end _ _ refl (ap (λ (x : Seen). x.end) s)
  end_of_node {call = call} {node = node} (is_missing l none s) = missing_of w.engine (plan_of call) (seen node).end (ap (λ (x : Seen). x.end) s)
  end_of_node (by_host from to answer l none c ended alone says) = hosts_of says
  end_of_node {node = node} (is_constant own l none u first on s) = small_end (seen node).end _ _ (omega arith) (omega arith) (ap (λ (x : Seen). x.end) s)
  end_of_node (has_ended pick last l none c came by) = last_of by
  end_of_node {node = node} (was_cut pick c l none begun shown e) = large_end (seen node).end _ _ (omega arith) (omega arith) e

  tree_end : {node root : CallNode} (inside : InTree node root) {f : Frame} {level : ℕ} {call : CallRequest} {before after : Moment H B} {cut : Bool} → Runs o w f level call root before after cut → EndOf (seen node).end
  tree_end inside r = end_of_node (runs_end o w (tree_runs o w inside r).3)

  -- an end of a call itself is a fault
  pub own_fault_is : {node root : CallNode} (inside : InTree node root) {f : Frame} {level : ℕ} {call : CallRequest} {before after : Moment H B} {cut : Bool} → Runs o w f level call root before after cut → (seen node).end.whose ≡ Call → (fault : EvalAltResult) × IsOwn (seen node).end fault
  own_fault_is {node} inside r h = fault_of (seen node).end (tree_end inside r) h

  -- a fault of a call itself has one of these numbers
  pub own_number : {node root : CallNode} (inside : InTree node root) {f : Frame} {level : ℕ} {call : CallRequest} {before after : Moment H B} {cut : Bool} (fault : EvalAltResult)
      → Runs o w f level call root before after cut → IsOwn (seen node).end fault → IsOwnNumber (number fault)
  own_number {node} inside fault r h = number_of (seen node).end fault (tree_end inside r) h

  -- it refuses a value exactly where it is of a kind or of a size
  pub own_refused : {node root : CallNode} (inside : InTree node root) {f : Frame} {level : ℕ} {call : CallRequest} {before after : Moment H B} {cut : Bool} (fault : EvalAltResult)
      → Runs o w f level call root before after cut → IsOwn (seen node).end fault →
      ((value : Tree) × ((seen node).end.refused ≡ Some value)) ↔ IsRefusing (number fault)
  own_refused {node} inside fault r h = refused_of (seen node).end fault (tree_end inside r) h

  -- nothing else refuses a value
  pub others_refuse : {node root : CallNode} (inside : InTree node root) {f : Frame} {level : ℕ} {call : CallRequest} {before after : Moment H B} {cut : Bool}
      → Runs o w f level call root before after cut → ((seen node).end.whose ≡ Call → ⊥) → (seen node).end.refused ≡ None
  others_refuse {node} inside r h = kept_of (seen node).end (tree_end inside r) h

  -- a function's fault
  fails_by : {f : Frame} (node : Seen) (fault : EvalAltResult) (pick : Pick) (last : NativeStep) → EndsWith o w f node pick last
      → IsFunctions w.engine.printers (plan_of node.call) pick last node.end.answer → node.end.answer ≡ Err fault → FunctionFails o w f node fault
  fails_by node fault pick last came (own_value v made back is makes a) h = let q : ◌≡◌ {A = Result Tree EvalAltResult} (Ok made) (Err fault) = sym a ∙ h in absurd cc
  fails_by {f} node fault pick last came (own_fault own back is a) h =
      let q : ◌≡◌ {A = Result Tree EvalAltResult} (Err own) (Err fault) = sym a ∙ h in
      let k : own ≡ fault = cc in
      record { pick = pick; back = back; ended = subst (λ (x : NativeStep). EndsWith o w f node pick x) (is ∙ ap (λ (x : EvalAltResult). Failed x back) k) came }

  fails_back : {f : Frame} (node : Seen) (fault : EvalAltResult) → FunctionFails o w f node fault → FaultOf Called node.end fault
  fails_back node fault h = failed_last fault h.back (ends_by w.engine (plan_of node.call) h.pick (Failed fault h.back) node.end h.ended.ends) refl

  pub function_fails : {node root : CallNode} (inside : InTree node root) {f : Frame} {level : ℕ} {call : CallRequest} {before after : Moment H B} {cut : Bool} (fault : EvalAltResult) → Runs o w f level call root before after cut →
      FaultOf Called (seen node).end fault ↔ FunctionFails o w (frame_at w f inside) (seen node) fault
  function_fails {node} inside fault r = (
    λ h. let by = (called_exactly o w (tree_runs o w inside r).3).0 h.0 in fails_by (seen node) fault by.pick by.last by.ended by.shown h.1,
    fails_back (seen node) fault,
  )

  -- the host's fault
  hosts_by : {f : Frame} {level : ℕ} {call : CallRequest} {from to : H} {end : End} (fault : EvalAltResult) → IsAnsweredByHost o w.engine f level call from to end → end.answer ≡ Err fault
      → HostFails o w.engine f level call from to end fault
  hosts_by {call = call} {from = from} {to = to} {end = end} fault r h =
      let by : IsHosts r.gave end.answer → HostEnds o w.engine call from (Fault fault) to end =
      elim [
        | hosts_value v is a ↦ (let q : ◌≡◌ {A = Result Tree EvalAltResult} (Ok v) (Err fault) = sym a ∙ h in absurd cc)
        | hosts_fault own is a ↦ (
            let q : ◌≡◌ {A = Result Tree EvalAltResult} (Err own) (Err fault) = sym a ∙ h in
            let k : own ≡ fault = cc in subst (λ (x : HostAnswer). HostEnds o w.engine call from x to end) (is ∙ ap Fault k) r.ended)
      ] in
      record { asked = r.asked; ended = by r.shown }

  hosts_back : {f : Frame} {level : ℕ} {call : CallRequest} {from to : H} {end : End} (fault : EvalAltResult) → HostFails o w.engine f level call from to end fault → FaultOf Host end fault
  hosts_back {call = call} {end = end} fault r = fault_given fault (host_says w.engine (plan_of call) (Fault fault) end r.ended.ends) refl

  pub host_fails : {node root : CallNode} (inside : InTree node root) {f : Frame} {level : ℕ} {call : CallRequest} {before after : Moment H B} {cut : Bool} (fault : EvalAltResult) → Runs o w f level call root before after cut →
      FaultOf Host (seen node).end fault ↔ ((from : H) × (to : H) × HostFails o w.engine (frame_at w f inside) (seen node).level (seen node).call from to (seen node).end fault)
  host_fails {node} inside fault r =
      let own = tree_runs o w inside r in (λ h. (own.0.host, own.1.host, hosts_by fault ((host_exactly o w own.3).0 h.0) h.1), λ h. hosts_back fault h.2)
