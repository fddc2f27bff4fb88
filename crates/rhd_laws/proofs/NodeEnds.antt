-- How each call of a tree ends.
use Rattle.std.proofs.Common.{◌≡◌, ℕ, ◌<◌, ◌≤◌, Bool, true, false, List, [], refl, sym, ap, ◌∙◌, subst, ◌⊎◌, inl, inr, arith}
use Rattle.std.specs.Prelude.{◌↔◌, if◌then◌else◌, Option, None, Some, Err}
use Rattle.rhd_value.specs.Tree.{Bytes, Tree}
use Rattle.rhd_value.specs.declared.tag.Position.{Position}
use Rattle.rhd_value.specs.declared.tag.TypeTag.{TypeTag}
use Rattle.rhd_value.specs.declared.fault.EvalAltResult.{EvalAltResult}
use Rattle.rhd_value.specs.declared.fault.EvalAltResult.TheVariants.{ErrorNonPureMethodCallOnConstant, ErrorDataRace, ErrorMismatchOutputType, ErrorTooManyOperations, ErrorStackOverflow, ErrorDataTooLarge, ErrorModuleNotFound}
use Rattle.rhd_func.specs.declared.func.RhaiFunc.{RhaiFunc}
use Rattle.rhd_func.specs.declared.request.Carry.{Carry}
use Rattle.rhd_func.specs.declared.request.CallRequest.{CallRequest}
use Rattle.rhd_func.specs.declared.request.CallRequest.TheVariants.{Named, Qualified}
use Rattle.rhd_func.specs.declared.request.CallShape.{CallShape}
use Rattle.rhd_func.specs.declared.request.CallShape.TheVariants.{Plain, ByRef, Method}
use Rattle.rhd_func.specs.declared.request.NativeStep.{NativeStep}
use Rattle.rhd_func.specs.declared.request.NativeStep.TheVariants.{Done}
use Rattle.rhd_func.specs.Funcs.{is_method, is_script}
use Rattle.rhd_func.specs.GivenBack.{back_of}
use Rattle.rhd_func.specs.declared.request.HostAnswer.{HostAnswer}
use Rattle.rhd_func.specs.declared.request.HostAnswer.TheVariants.{Value}
use Rattle.rhd_func.specs.Shapes.{first_given, given, pos_of}
use Rattle.rhd_engine.specs.Engine.{EngineLists, Frame}
use Rattle.rhd_machine.specs.World.{World, Objects, Moment}
use Rattle.rhd_call.specs.End.{End, refusing}
use Rattle.rhd_call.specs.declared.node.CallNode.{CallNode}
use Rattle.rhd_call.specs.declared.node.Whose.TheVariants.{Call, Called, Host}
use Rattle.rhd_call.specs.declared.pick.Pick.{Pick}
use Rattle.rhd_engine.specs.Display.{display}
use Rattle.rhd_machine.specs.Plans.{is_unqualified, in_module, Plan, plan_of}
use Rattle.rhd_machine.specs.Received.{Convention, native_method, convention_of, has_the_given}
use Rattle.rhd_dispatch.specs.Picks.{root_of}
use Rattle.rhd_dispatch.specs.Races.{locked_place}
use Rattle.rhd_machine.specs.Ends.{wanted_name, first_at_end, end_of, missing_end}
use Rattle.rhd_machine.specs.Decisions.{refusal, constant_end}
use Rattle.rhd_machine.specs.Decisions as decisions
use Rattle.rhd_laws.specs.FirstAsks.{EndsAlone, is_refused, isnt_found, on_constant, IsAnsweredFirst, IsOnConstant}
use Rattle.rhd_laws.specs.Causes.{IsOwn, IsForNoConstant, IsFirstLocked, NamesLocked, AreWithin, IsTooLarge, IsOfOtherKind, IsMismatch, EndsWith, RefusesKind, RefusesSize, RefusesHosts, RefusesValue, for_kind, for_size, for_host, ShowsGivenBack}
use Rattle.rhd_laws.specs.Unfound.{fault_number as number}
use Rattle.rhd_machine.specs.Entered.{context}
use Rattle.rhd_laws.specs.Hosts.{HostEnds}
use Rattle.rhd_call.specs.Seen.{Seen, seen, begun_node, unbegun_node, cut_end}
use Rattle.rhd_machine.specs.Steps.{Starts}
use Rattle.rhd_machine.specs.Runs.{Runs, not_begun, ended, host_answered, finished, cut_short, Steps, received_by}
use Rattle.rhd_machine.proofs.Found.{plan_pos, deep_end, locked_end, rootless_end, own_refusal}
use Rattle.rhd_laws.proofs.FirstAnswered.{ends_missing, runs_first, asks_first, first_constant, asks_no_pick, host_ends}
use Rattle.rhd_laws.proofs.UnfoundRows.{missing_number}
use Rattle.rhd_laws.proofs.HostEnds.{HostSays, says_nothing, says_fault, says_other, says_value, host_says, host_other, host_first}
use Rattle.rhd_laws.proofs.LastSteps.{EndsBy, fails, is_large, is_other, fits, ends_by, large_ends, other_ends}
use Rattle.rhd_laws.proofs.Locked.{place_first, first_place}
use Rattle.rhd_laws.proofs.Refusals.{Refused, for_level, for_lock, for_path, refused, unrefused, not_both_searches, none_locked, none_rootless}
use Rattle.rhd_laws.proofs.Roots.{no_root, root_none}
use Rattle.rhd_laws.specs.Roots.{HasNoRoot, NamesNoRoot}
use Rattle.rhd_laws.proofs.Conventions.{method_no_script, native_convention, script_convention}

pub plan_given : (call : CallRequest) → (plan_of call).given ≡ given call
plan_given (Named name token native_only shape want pos) = refl
plan_given (Qualified path name shape pos) = refl

pub given_shape : (call : CallRequest) → first_given (plan_of call).shape ≡ given call
given_shape (Named name token native_only shape want pos) = refl
given_shape (Qualified path name (Plain args) pos) = refl
given_shape (Qualified path name (ByRef first args) pos) = refl
given_shape (Qualified path name (Method object args) pos) = refl

-- what of its first argument a function has itself
method_has : (shape : CallShape) (first : Tree) → first_given shape ≡ Some first → has_the_given native_method shape ≡ true
method_has (Plain args) first h = absurd cc
method_has (ByRef a args) first h = refl
method_has (Method a args) first h = refl

copies_native : (e : EngineLists) (func : RhaiFunc) (shape : CallShape) → is_script func ≡ false → is_method e.natives func ≡ false → has_the_given (convention_of e.natives func) shape ≡ false
copies_native e func shape s m = ap (λ (c : Convention). has_the_given c shape) (native_convention e.natives func false s m)

copies_script : (e : EngineLists) (func : RhaiFunc) (first : Tree) (args : List Tree) → is_script func ≡ true → has_the_given (convention_of e.natives func) (ByRef first args) ≡ false
copies_script e func first args s = ap (λ (c : Convention). has_the_given c (ByRef first args)) (script_convention e.natives func s)

has_in_method : (e : EngineLists) (func : RhaiFunc) (shape : CallShape) (first : Tree) → is_method e.natives func ≡ true → first_given shape ≡ Some first → has_the_given (convention_of e.natives func) shape ≡ true
has_in_method e func shape first m h = ap (λ (c : Convention). has_the_given c shape) (native_convention e.natives func true (method_no_script e.natives func m) m) ∙ method_has shape first h

has_object : (e : EngineLists) (func : RhaiFunc) (object : Tree) (args : List Tree) → is_script func ≡ true → has_the_given (convention_of e.natives func) (Method object args) ≡ true
has_object e func object args s = ap (λ (c : Convention). has_the_given c (Method object args)) (script_convention e.natives func s)

-- a script may be called on a constant
no_script : (e : EngineLists) (plan : Plan) (pick : Pick) → is_script pick.func ≡ true → IsOnConstant e plan pick → ⊥
no_script e plan pick s on = let q : true ≡ false = sym s ∙ on.native in absurd cc

-- every end of a last step shows the first argument as it is in the end
pub ends_first : {engine : EngineLists} {plan : Plan} {pick : Pick} {step : NativeStep} {end : End} → EndsBy engine plan pick step end → end.first_after ≡ first_at_end engine plan pick (back_of step)
ends_first {engine} {plan = plan} {pick = pick} (fails fault back is e) = ap (λ (x : End). x.first_after) e ∙ ap (first_at_end engine plan pick) (sym (ap back_of is))
ends_first {engine} {plan = plan} {pick = pick} (is_large v back what is l e) = ap (λ (x : End). x.first_after) e ∙ ap (first_at_end engine plan pick) (sym (ap back_of is))
ends_first {engine} {plan = plan} {pick = pick} (is_other v made back wanted is within other e) = ap (λ (x : End). x.first_after) e ∙ ap (first_at_end engine plan pick) (sym (ap back_of is))
ends_first {engine} {plan = plan} {pick = pick} (fits v made back is within text makes wanted e) = ap (λ (x : End). x.first_after) e ∙ ap (first_at_end engine plan pick) (sym (ap back_of is))

pub not_own : {fault own : EvalAltResult} (end : End) → end.answer ≡ Err own → end.answer ≡ Err fault → fault ≡ own
not_own end e h = cc

same_overflow : {a b : Position} → ErrorStackOverflow a ≡ ErrorStackOverflow b → a ≡ b
same_overflow h = cc

pub no_fault : {fault own : EvalAltResult} (end : End) → end.answer ≡ Err own → end.answer ≡ Err fault → (number fault ≡ number own → ⊥) → ⊥
no_fault end e h n = n (ap number (not_own end e h))

pub no_unfound : (e : EngineLists) (plan : Plan) {fault : EvalAltResult} (end : End) → end ≡ missing_end e plan → IsOwn end fault → (number fault ≤ 4 → ⊥) → ⊥
no_unfound e plan {fault} end k h n =
    let q = ap number (not_own end (ap (λ (x : End). x.answer) k) h.1) in
    n (omega (arith, q, missing_number e plan plan.search))

no_missing : (e : EngineLists) (call : CallRequest) {fault : EvalAltResult} (end : End) → end ≡ missing_end e (plan_of call) → IsOwn end fault → (number fault ≤ 4 → ⊥) → ⊥
no_missing e call end k h n = no_unfound e (plan_of call) end k h n

-- the host's own answer is no fault of the call's own
is_hosts : (end : End) {fault : EvalAltResult} → end.whose ≡ Host → IsOwn end fault → ⊥
is_hosts end e h = let q : Host ≡ Call = sym e ∙ h.0 in absurd cc

-- a call that the host answers ends with no fault of its own but one of these and that of a kind
no_host : {e : EngineLists} {plan : Plan} {answer : HostAnswer} {fault : EvalAltResult} (end : End) → HostSays e plan answer end → IsOwn end fault → (number fault ≤ 4 → ⊥) → (number fault ≡ 7 → ⊥) → ⊥
no_host {e} {plan} end (says_nothing is same) h n k = no_unfound e plan end same h n
no_host end (says_fault fault is e) h n k = is_hosts end (ap (λ (x : End). x.whose) e) h
no_host end (says_other v kind is other e) h n k = k (ap number (not_own end (ap (λ (x : End). x.answer) e) h.1))
no_host end (says_value v is e) h n k = is_hosts end (ap (λ (x : End). x.whose) e) h

is_called : (end : End) {fault : EvalAltResult} → end.whose ≡ Called → IsOwn end fault → ⊥
is_called end e h = let q : Called ≡ Call = sym e ∙ h.0 in absurd cc

-- a last step with which the call ends by a fault of its own
record OwnSize (engine : EngineLists) (plan : Plan) (pick : Pick) (step : NativeStep) (end : End) (fault : EvalAltResult) : Type 0 where
  value : Tree
  back : Option Tree
  what : Bytes
  step_is : step ≡ Done value back
  large : IsTooLarge engine plan pick back value what
  says : fault ≡ ErrorDataTooLarge what plan.pos
  refused : end.refused ≡ Some value

record OwnKind (e : EngineLists) (plan : Plan) (pick : Pick) (step : NativeStep) (end : End) (fault : EvalAltResult) : Type 0 where
  answer : Tree
  value : Tree
  back : Option Tree
  wanted : Bytes
  step_is : step ≡ Done answer back
  within : AreWithin e plan pick back answer
  other : IsMismatch e plan pick answer wanted value
  says : fault ≡ ErrorMismatchOutputType wanted (display e value) plan.pos
  refused : end.refused ≡ Some value

own_last : {e : EngineLists} {plan : Plan} {pick : Pick} {step : NativeStep} (end : End) (fault : EvalAltResult) → EndsBy e plan pick step end → IsOwn end fault → OwnSize e plan pick step end fault ⊎ OwnKind e plan pick step end fault
own_last end fault (fails own back is e) h = absurd (is_called end (ap (λ (x : End). x.whose) e) h)
own_last end fault (is_large v back what is l e) h =
    inl (record { value = v; back = back; what = what; step_is = is; large = l; says = not_own end (ap (λ (x : End). x.answer) e) h.1; refused = ap (λ (x : End). x.refused) e })
own_last end fault (is_other v made back wanted is within other e) h =
    inr (record { answer = v; value = made; back = back; wanted = wanted; step_is = is; within = within; other = other; says = not_own end (ap (λ (x : End). x.answer) e) h.1; refused = ap (λ (x : End). x.refused) e })
own_last end fault (fits v made back is within text makes wanted e) h = absurd (is_called end (ap (λ (x : End). x.whose) e) h)

-- a last step with which the call refuses a value
abbrev RefusedLast : EngineLists → Plan → Pick → NativeStep → End → Tree → Type 0
RefusedLast e plan pick step end value =
    ((fault : EvalAltResult) × (r : OwnSize e plan pick step end fault) × (r.value ≡ value)) ⊎ ((fault : EvalAltResult) × (r : OwnKind e plan pick step end fault) × (r.value ≡ value))

refused_last : {engine : EngineLists} {plan : Plan} {pick : Pick} {step : NativeStep} {end : End} (value : Tree) → EndsBy engine plan pick step end → end.refused ≡ Some value → RefusedLast engine plan pick step end value
refused_last value (fails own back is e) h = let q : None ≡ Some value = sym (ap (λ (x : End). x.refused) e) ∙ h in absurd cc
refused_last {plan = plan} value (is_large v back what is l e) h =
    let q : Some v ≡ Some value = sym (ap (λ (x : End). x.refused) e) ∙ h in
    inl (ErrorDataTooLarge what plan.pos, record { value = v; back = back; what = what; step_is = is; large = l; says = refl; refused = ap (λ (x : End). x.refused) e }, cc)
refused_last {engine} {plan = plan} value (is_other v made back wanted is within other e) h =
    let q : Some made ≡ Some value = sym (ap (λ (x : End). x.refused) e) ∙ h in
    inr (ErrorMismatchOutputType wanted (display engine made) plan.pos, record { answer = v; value = made; back = back; wanted = wanted; step_is = is; within = within; other = other; says = refl; refused = ap (λ (x : End). x.refused) e }, cc)
refused_last value (fits v made back is within text makes wanted e) h = let q : None ≡ Some value = sym (ap (λ (x : End). x.refused) e) ∙ h in absurd cc

module _ {H B : Type 0} (o : Objects H B) (w : World) where
  -- the ways in which a call may end
  pub data ShowsEnd (f : Frame) (level : ℕ) (call : CallRequest) (node : CallNode) (cut : Bool) : Type 0 where
    isnt_begun : seen node ≡ unbegun_node call level → ShowsEnd f level call node cut
    is_deep : w.engine.limits.level < level → seen node ≡ begun_node call level None [] [] (deep_end call) → ShowsEnd f level call node cut
    is_locked : (n : ℕ) → level ≤ w.engine.limits.level → is_unqualified (plan_of call).search ≡ true → locked_place (plan_of call).shape ≡ Some n → seen node ≡ begun_node call level None [] [] (locked_end call n) → ShowsEnd f level call node cut
    is_rootless : (path : List Bytes) → level ≤ w.engine.limits.level → (plan_of call).search ≡ in_module path → root_of w.engine f.imports path ≡ None → seen node ≡ begun_node call level None [] [] (rootless_end call path) → ShowsEnd f level call node cut
    is_missing : level ≤ w.engine.limits.level → own_refusal w.engine f call ≡ None → seen node ≡ begun_node call level None [] [] (missing_end w.engine (plan_of call)) → ShowsEnd f level call node cut
    by_host : (from to : H) (answer : HostAnswer) → level ≤ w.engine.limits.level → own_refusal w.engine f call ≡ None → (seen node).call ≡ call
        → HostEnds o w.engine (seen node).call from answer to (seen node).end → (seen node).pick ≡ None → HostSays w.engine (plan_of (seen node).call) answer (seen node).end
        → ShowsEnd f level call node cut
    is_constant : (own : Pick) → level ≤ w.engine.limits.level → own_refusal w.engine f call ≡ None → refusal w.engine f level call ≡ None → IsAnsweredFirst w.engine f call own
        → IsOnConstant w.engine (plan_of call) own → seen node ≡ begun_node call level (Some own) [] [] (constant_end (plan_of call)) → ShowsEnd f level call node cut
    has_ended : (pick : Pick) (last : NativeStep) → level ≤ w.engine.limits.level → own_refusal w.engine f call ≡ None → (seen node).call ≡ call → EndsWith o w f (seen node) pick last
        → EndsBy w.engine (plan_of (seen node).call) pick last (seen node).end → ShowsEnd f level call node cut
    was_cut : (pick : Pick) → cut ≡ true → level ≤ w.engine.limits.level → own_refusal w.engine f call ≡ None → (seen node).begun ≡ true → (seen node).pick ≡ Some pick → (seen node).end ≡ cut_end call → ShowsEnd f level call node cut

  ended_by : (f : Frame) (level : ℕ) (call : CallRequest) (node : CallNode) (plan : Plan) (pick : Pick) (first last : NativeStep) (carries : List Carry) (children : List CallNode) (end : End) (from to till : Moment H B) →
      plan ≡ plan_of call → seen node ≡ begun_node call level (Some pick) carries children end →
      Starts o w.engine.natives (context f level plan pick) pick.func (received_by w.engine plan pick) from first to →
      Steps o w f level plan pick first carries children last to till →
      end_of w.engine plan pick last ≡ Some end → EndsWith o w f (seen node) pick last
  ended_by f level call node plan pick first last carries children end from to till is s starts steps e =
      subst (λ (x : Seen). EndsWith o w f x pick last) (sym s)
      (record {
        before = from;
        started = to;
        after = till;
        first = first;
        shown = refl;
        starts = subst (λ (p : Plan). Starts o w.engine.natives (context f level p pick) pick.func (received_by w.engine p pick) from first to) is starts;
        steps = subst (λ (p : Plan). Steps o w f level p pick first carries children last to till) is steps;
        ends = subst (λ (p : Plan). end_of w.engine p pick last ≡ Some end) is e;
      })

  refused_by : (f : Frame) (level : ℕ) (call : CallRequest) (node : CallNode) (cut : Bool) (pick : Option Pick) (end : End) → pick ≡ None → seen node ≡ begun_node call level pick [] [] end → Refused w.engine f level call end → ShowsEnd f level call node cut
  refused_by f level call node cut pick end none s (for_level deep e) = is_deep deep (s ∙ (λ i. begun_node call level (none i) [] [] (e i)))
  refused_by f level call node cut pick end none s (for_lock n l unqualified place e) = is_locked n l unqualified place (s ∙ (λ i. begun_node call level (none i) [] [] (e i)))
  refused_by f level call node cut pick end none s (for_path path l search root e) = is_rootless path l search root (s ∙ (λ i. begun_node call level (none i) [] [] (e i)))

  alone_by : (f : Frame) (level : ℕ) (call : CallRequest) (node : CallNode) (cut : Bool) (pick : Option Pick) (end : End) → EndsAlone w.engine f level call pick end
      → seen node ≡ begun_node call level pick [] [] end → ShowsEnd f level call node cut
  alone_by f level call node cut pick end (is_refused none u) s = refused_by f level call node cut pick end none s (refused w.engine f level call end u)
  alone_by f level call node cut pick end (isnt_found none unrefused_is only missing un) s =
      let u = unrefused w.engine f level call unrefused_is in is_missing u.0 u.1 (s ∙ (λ i. begun_node call level (none i) [] [] (missing i)))
  alone_by f level call node cut pick end (on_constant own some unrefused_is first on constant) s =
      let u = unrefused w.engine f level call unrefused_is in is_constant own u.0 u.1 unrefused_is first on (s ∙ (λ i. begun_node call level (some i) [] [] (constant i)))

  pub runs_end : {f : Frame} {level : ℕ} {call : CallRequest} {node : CallNode} {before after : Moment H B} {cut : Bool} → Runs o w f level call node before after cut → ShowsEnd f level call node cut
  runs_end (not_begun b s) = isnt_begun s
  runs_end (ended {f = f} {level = level} {call = call} {node = node} {pick = pick} {end = end} b d s) =
      alone_by f level call node false pick end (ends_missing w.engine f level call pick end d) s
  runs_end (host_answered {f = f} {level = level} {call = call} {node = node} {before = before} {plan = plan} {answer = answer} {host = host} b d a s) =
      let r = asks_first w.engine f level call plan d in
      let u = unrefused w.engine f level call r.1.unrefused in
      let own : plan ≡ plan_of (seen node).call = r.0 ∙ ap plan_of (sym (ap (λ (x : Seen). x.call) s)) in
      let ended' = host_ends o w.engine (seen node).call plan before.host answer host own a (ap (λ (x : Seen). x.end) s) in
      by_host before.host host answer u.0 u.1 (ap (λ (x : Seen). x.call) s) ended' (ap (λ (x : Seen). x.pick) s) (host_says w.engine (plan_of (seen node).call) answer (seen node).end ended'.ends)
  runs_end (finished {f = f} {level = level} {call = call} {node = node} {before = before} {started = started} {after = after} {plan = plan} {pick = pick} {first = first} {last = last} {carries = carries} {children = children} {end = end} b d starts steps e s) =
      let r = runs_first w.engine f level call plan pick d in
      let u = unrefused w.engine f level call r.0 in
      has_ended pick last u.0 u.1 (ap (λ (x : Seen). x.call) s) (ended_by f level call node plan pick first last carries children end _ started after r.1 s starts steps e)
      (subst (λ (p : Plan). EndsBy w.engine p pick last (seen node).end) (r.1 ∙ ap plan_of (sym (ap (λ (x : Seen). x.call) s)))
      (subst (λ (x : End). EndsBy w.engine plan pick last x) (sym (ap (λ (x : Seen). x.end) s)) (ends_by w.engine plan pick last end e)))
  runs_end (cut_short {f = f} {level = level} {call = call} {plan = plan} {pick = pick} b d starts steps r s) =
      let u = unrefused w.engine f level call (runs_first w.engine f level call plan pick d).0 in
      was_cut pick refl u.0 u.1 (ap (λ (x : Seen). x.begun) s) (ap (λ (x : Seen). x.pick) s) (ap (λ (x : Seen). x.end) s)

  -- no last step ends a call with a fault of its own but for its kind or size
  pub no_other : {pick : Pick} {last : NativeStep} {plan : Plan} (end : End) (fault : EvalAltResult) → EndsBy w.engine plan pick last end → (number fault ≡ 7 → ⊥) → (number fault ≡ 11 → ⊥) → IsOwn end fault → ⊥
  no_other {pick} {last} {plan} end fault by kind size h =
      let one : OwnSize w.engine plan pick last end fault ⊎ OwnKind w.engine plan pick last end fault → ⊥ = elim [ inl r ↦ size (ap number r.says) | inr r ↦ kind (ap number r.says) ]
      in one (own_last end fault by h)

  -- fault 6
  race_only : {f : Frame} {level : ℕ} {call : CallRequest} {node : CallNode} {cut : Bool} (text : Bytes) (pos : Position) → ShowsEnd f level call node cut → (seen node).begun ≡ true → IsOwn (seen node).end (ErrorDataRace text pos)
      → (level ≤ w.engine.limits.level) × NamesLocked call (ErrorDataRace text pos)
  race_only text pos (isnt_begun s) begun h = let q : false ≡ true = sym (ap (λ (x : Seen). x.begun) s) ∙ begun in absurd cc
  race_only {node = node} text pos (is_deep deep s) begun h = absurd (no_fault (seen node).end (ap (λ (x : Seen). x.end.answer) s) h.1 (λ q. absurd (omega (arith, q))))
  race_only {call = call} {node = node} text pos (is_locked n l unqualified place s) begun h = (l, (unqualified, n, place_first (plan_of call).shape n place, not_own (seen node).end (ap (λ (x : Seen). x.end.answer) s) h.1))
  race_only {node = node} text pos (is_rootless path l search none s) begun h = absurd (no_fault (seen node).end (ap (λ (x : Seen). x.end.answer) s) h.1 (λ q. absurd (omega (arith, q))))
  race_only {call = call} {node = node} text pos (is_missing l none s) begun h = absurd (no_missing w.engine call (seen node).end (ap (λ (x : Seen). x.end) s) h (λ q. absurd (omega (arith, q))))
  race_only {node = node} text pos (by_host from to answer l none c asked alone says) begun h = absurd (no_host (seen node).end says h (λ q. absurd (omega (arith, q))) (λ q. absurd (omega (arith, q))))
  race_only {node = node} text pos (is_constant own l none u first on s) begun h = absurd (no_fault (seen node).end (ap (λ (x : Seen). x.end.answer) s) h.1 (λ q. absurd (omega (arith, q))))
  race_only {node = node} text pos (has_ended pick last l none c came by) begun h =
      let no : OwnSize w.engine (plan_of (seen node).call) pick last (seen node).end (ErrorDataRace text pos) ⊎ OwnKind w.engine (plan_of (seen node).call) pick last (seen node).end (ErrorDataRace text pos) → ⊥ =
      elim [ inl r ↦ (let q = ap number r.says in absurd (omega (arith, q))) | inr r ↦ (let q = ap number r.says in absurd (omega (arith, q))) ]
      in absurd (no (own_last (seen node).end (ErrorDataRace text pos) by h))
  race_only {node = node} text pos (was_cut pick c l none begun' shown e) begun h = absurd (no_fault (seen node).end (ap (λ (x : End). x.answer) e) h.1 (λ q. absurd (omega (arith, q))))

  pub race_shown : {f : Frame} {level : ℕ} {call : CallRequest} {node : CallNode} {cut : Bool} (n : ℕ) → ShowsEnd f level call node cut → (seen node).begun ≡ true → level ≤ w.engine.limits.level
      → is_unqualified (plan_of call).search ≡ true → IsFirstLocked (plan_of call).shape n
      → seen node ≡ begun_node call level None [] [] (locked_end call n)
  race_shown n (isnt_begun s) begun l unqualified first = let q : false ≡ true = sym (ap (λ (x : Seen). x.begun) s) ∙ begun in absurd cc
  race_shown n (is_deep deep s) begun l unqualified first = absurd (omega arith)
  race_shown {level = level} {call = call} n (is_locked m l' u place s) begun l unqualified first =
      let q : Some m ≡ Some n = sym place ∙ first_place (plan_of call).shape n first in
      let same : m ≡ n = cc in
      s ∙ ap (λ (k : ℕ). begun_node call level None [] [] (locked_end call k)) same
  race_shown {call = call} n (is_rootless path l' search none s) begun l unqualified first = absurd (not_both_searches call path search unqualified)
  race_shown {f} {call = call} n (is_missing l' none s) begun l unqualified first = absurd (none_locked w.engine f call n none unqualified (first_place (plan_of call).shape n first))
  race_shown {f} {call = call} n (by_host from to answer l' none c asked alone says) begun l unqualified first = absurd (none_locked w.engine f call n none unqualified (first_place (plan_of call).shape n first))
  race_shown {f} {call = call} n (is_constant own l' none u found on s) begun l unqualified first = absurd (none_locked w.engine f call n none unqualified (first_place (plan_of call).shape n first))
  race_shown {f} {call = call} n (has_ended pick last l' none c came by) begun l unqualified first = absurd (none_locked w.engine f call n none unqualified (first_place (plan_of call).shape n first))
  race_shown {f} {call = call} n (was_cut pick c l' none begun' shown e) begun l unqualified first = absurd (none_locked w.engine f call n none unqualified (first_place (plan_of call).shape n first))

  race_back : {f : Frame} {level : ℕ} {call : CallRequest} {node : CallNode} {cut : Bool} (text : Bytes) (pos : Position) → ShowsEnd f level call node cut → (seen node).begun ≡ true
      → (level ≤ w.engine.limits.level) × NamesLocked call (ErrorDataRace text pos)
      → IsOwn (seen node).end (ErrorDataRace text pos)
  race_back text pos ends begun h =
      let s = race_shown h.1.1 ends begun h.0 h.1.0 h.1.2 in
      (ap (λ (x : Seen). x.end.whose) s, ap (λ (x : Seen). x.end.answer) s ∙ ap Err (sym h.1.3))

  pub race_exactly : {f : Frame} {level : ℕ} {call : CallRequest} {node : CallNode} {cut : Bool} (text : Bytes) (pos : Position) → ShowsEnd f level call node cut → (seen node).begun ≡ true
      → IsOwn (seen node).end (ErrorDataRace text pos) ↔ ((level ≤ w.engine.limits.level) × NamesLocked call (ErrorDataRace text pos))
  race_exactly text pos ends begun = (race_only text pos ends begun, race_back text pos ends begun)

  -- fault 12
  rootless_only : {f : Frame} {level : ℕ} {call : CallRequest} {node : CallNode} {cut : Bool} (text : Bytes) (pos : Position) → ShowsEnd f level call node cut → (seen node).begun ≡ true
      → IsOwn (seen node).end (ErrorModuleNotFound text pos) → (level ≤ w.engine.limits.level) × NamesNoRoot w.engine f call (ErrorModuleNotFound text pos)
  rootless_only text pos (isnt_begun s) begun h = let q : false ≡ true = sym (ap (λ (x : Seen). x.begun) s) ∙ begun in absurd cc
  rootless_only {node = node} text pos (is_deep deep s) begun h = absurd (no_fault (seen node).end (ap (λ (x : Seen). x.end.answer) s) h.1 (λ q. absurd (omega (arith, q))))
  rootless_only {node = node} text pos (is_locked n l unqualified place s) begun h = absurd (no_fault (seen node).end (ap (λ (x : Seen). x.end.answer) s) h.1 (λ q. absurd (omega (arith, q))))
  rootless_only {f} {node = node} text pos (is_rootless path l search none s) begun h = (l, (path, search, no_root w.engine f path none, not_own (seen node).end (ap (λ (x : Seen). x.end.answer) s) h.1))
  rootless_only {call = call} {node = node} text pos (is_missing l none s) begun h = absurd (no_missing w.engine call (seen node).end (ap (λ (x : Seen). x.end) s) h (λ q. absurd (omega (arith, q))))
  rootless_only {node = node} text pos (by_host from to answer l none c asked alone says) begun h = absurd (no_host (seen node).end says h (λ q. absurd (omega (arith, q))) (λ q. absurd (omega (arith, q))))
  rootless_only {node = node} text pos (is_constant own l none u first on s) begun h = absurd (no_fault (seen node).end (ap (λ (x : Seen). x.end.answer) s) h.1 (λ q. absurd (omega (arith, q))))
  rootless_only {node = node} text pos (has_ended pick last l none c came by) begun h = absurd (no_other (seen node).end (ErrorModuleNotFound text pos) by (λ q. absurd (omega (arith, q))) (λ q. absurd (omega (arith, q))) h)
  rootless_only {node = node} text pos (was_cut pick c l none begun' shown e) begun h = absurd (no_fault (seen node).end (ap (λ (x : End). x.answer) e) h.1 (λ q. absurd (omega (arith, q))))

  same_search : (call : CallRequest) (path own : List Bytes) → (plan_of call).search ≡ in_module own → (plan_of call).search ≡ in_module path → own ≡ path
  same_search call path own a b = let q : in_module own ≡ in_module path = sym a ∙ b in cc

  pub rootless_shown : {f : Frame} {level : ℕ} {call : CallRequest} {node : CallNode} {cut : Bool} (path : List Bytes) → ShowsEnd f level call node cut → (seen node).begun ≡ true → level ≤ w.engine.limits.level
      → (plan_of call).search ≡ in_module path → HasNoRoot w.engine f path
      → seen node ≡ begun_node call level None [] [] (rootless_end call path)
  rootless_shown path (isnt_begun s) begun l search root = let q : false ≡ true = sym (ap (λ (x : Seen). x.begun) s) ∙ begun in absurd cc
  rootless_shown path (is_deep deep s) begun l search root = absurd (omega arith)
  rootless_shown {call = call} path (is_locked n l' unqualified place s) begun l search root = absurd (not_both_searches call path search unqualified)
  rootless_shown {level = level} {call = call} path (is_rootless own l' is none s) begun l search root = s ∙ ap (λ (x : List Bytes). begun_node call level None [] [] (rootless_end call x)) (same_search call path own is search)
  rootless_shown {f} {call = call} path (is_missing l' none s) begun l search root = absurd (none_rootless w.engine f call path none search (root_none w.engine f path root))
  rootless_shown {f} {call = call} path (by_host from to answer l' none c asked alone says) begun l search root = absurd (none_rootless w.engine f call path none search (root_none w.engine f path root))
  rootless_shown {f} {call = call} path (is_constant own l' none u found on s) begun l search root = absurd (none_rootless w.engine f call path none search (root_none w.engine f path root))
  rootless_shown {f} {call = call} path (has_ended pick last l' none c came by) begun l search root = absurd (none_rootless w.engine f call path none search (root_none w.engine f path root))
  rootless_shown {f} {call = call} path (was_cut pick c l' none begun' shown e) begun l search root = absurd (none_rootless w.engine f call path none search (root_none w.engine f path root))

  rootless_back : {f : Frame} {level : ℕ} {call : CallRequest} {node : CallNode} {cut : Bool} (text : Bytes) (pos : Position) → ShowsEnd f level call node cut → (seen node).begun ≡ true
      → (level ≤ w.engine.limits.level) × NamesNoRoot w.engine f call (ErrorModuleNotFound text pos) → IsOwn (seen node).end (ErrorModuleNotFound text pos)
  rootless_back text pos ends begun h =
      let s = rootless_shown h.1.0 ends begun h.0 h.1.1 h.1.2 in
      (ap (λ (x : Seen). x.end.whose) s, ap (λ (x : Seen). x.end.answer) s ∙ ap Err (sym h.1.3))

  pub rootless_exactly : {f : Frame} {level : ℕ} {call : CallRequest} {node : CallNode} {cut : Bool} (text : Bytes) (pos : Position) → ShowsEnd f level call node cut → (seen node).begun ≡ true
      → IsOwn (seen node).end (ErrorModuleNotFound text pos) ↔ ((level ≤ w.engine.limits.level) × NamesNoRoot w.engine f call (ErrorModuleNotFound text pos))
  rootless_exactly text pos ends begun = (rootless_only text pos ends begun, rootless_back text pos ends begun)

  -- fault 5
  pub constant_only : {f : Frame} {level : ℕ} {call : CallRequest} {node : CallNode} {cut : Bool} (name : Bytes) (pos : Position) → ShowsEnd f level call node cut → (seen node).begun ≡ true
      → IsOwn (seen node).end (ErrorNonPureMethodCallOnConstant name pos)
      → IsForNoConstant w.engine f level call (ErrorNonPureMethodCallOnConstant name pos)
  constant_only name pos (isnt_begun s) begun h = let q : false ≡ true = sym (ap (λ (x : Seen). x.begun) s) ∙ begun in absurd cc
  constant_only {node = node} name pos (is_deep deep s) begun h = absurd (no_fault (seen node).end (ap (λ (x : Seen). x.end.answer) s) h.1 (λ q. absurd (omega (arith, q))))
  constant_only {node = node} name pos (is_locked n l unqualified place s) begun h = absurd (no_fault (seen node).end (ap (λ (x : Seen). x.end.answer) s) h.1 (λ q. absurd (omega (arith, q))))
  constant_only {node = node} name pos (is_rootless path l search none s) begun h = absurd (no_fault (seen node).end (ap (λ (x : Seen). x.end.answer) s) h.1 (λ q. absurd (omega (arith, q))))
  constant_only {call = call} {node = node} name pos (is_missing l none s) begun h = absurd (no_missing w.engine call (seen node).end (ap (λ (x : Seen). x.end) s) h (λ q. absurd (omega (arith, q))))
  constant_only {node = node} name pos (by_host from to answer l none c asked alone says) begun h = absurd (no_host (seen node).end says h (λ q. absurd (omega (arith, q))) (λ q. absurd (omega (arith, q))))
  constant_only {node = node} name pos (is_constant own l none u first on s) begun h = record { pick = own; unrefused = u; first = first; on = on; says = not_own (seen node).end (ap (λ (x : Seen). x.end.answer) s) h.1 }
  constant_only {node = node} name pos (has_ended pick last l none c came by) begun h =
      absurd (no_other (seen node).end (ErrorNonPureMethodCallOnConstant name pos) by (λ q. absurd (omega (arith, q))) (λ q. absurd (omega (arith, q))) h)
  constant_only {node = node} name pos (was_cut pick c l none begun' shown e) begun h = absurd (no_fault (seen node).end (ap (λ (x : End). x.answer) e) h.1 (λ q. absurd (omega (arith, q))))

  pub constant_shown : {f : Frame} {level : ℕ} {call : CallRequest} {node : CallNode} {before after : Moment H B} {cut : Bool} (pick : Pick) → Runs o w f level call node before after cut
      → (seen node).begun ≡ true → refusal w.engine f level call ≡ None → IsAnsweredFirst w.engine f call pick → IsOnConstant w.engine (plan_of call) pick
      → seen node ≡ begun_node call level (Some pick) [] [] (constant_end (plan_of call))
  constant_shown pick (not_begun b s) begun u first on = let q : false ≡ true = sym (ap (λ (x : Seen). x.begun) s) ∙ begun in absurd cc
  constant_shown pick (ended {f = f} {level = level} {call = call} {pick = p} {end = end} b d s) begun u first on =
      let q : decisions.ends p end ≡ decisions.ends (Some pick) (constant_end (plan_of call)) = sym d ∙ first_constant w.engine f level call pick u first on in
      let shown : p ≡ Some pick = cc in
      let same : end ≡ constant_end (plan_of call) = cc in
      s ∙ (λ i. begun_node call level (shown i) [] [] (same i))
  constant_shown pick (host_answered {f = f} {level = level} {call = call} {plan = plan} b d a s) begun u first on = absurd (asks_no_pick w.engine f level call pick plan (u, first) d)
  constant_shown pick (finished {f = f} {level = level} {call = call} {plan = plan} {pick = p} b d starts steps e s) begun u first on =
      let q : decisions.runs plan p ≡ decisions.ends (Some pick) (constant_end (plan_of call)) = sym d ∙ first_constant w.engine f level call pick u first on in absurd cc
  constant_shown pick (cut_short {f = f} {level = level} {call = call} {plan = plan} {pick = p} b d starts steps r s) begun u first on =
      let q : decisions.runs plan p ≡ decisions.ends (Some pick) (constant_end (plan_of call)) = sym d ∙ first_constant w.engine f level call pick u first on in absurd cc

  constant_back : {f : Frame} {level : ℕ} {call : CallRequest} {node : CallNode} {before after : Moment H B} {cut : Bool} (name : Bytes) (pos : Position) → Runs o w f level call node before after cut
      → (seen node).begun ≡ true → IsForNoConstant w.engine f level call (ErrorNonPureMethodCallOnConstant name pos)
      → IsOwn (seen node).end (ErrorNonPureMethodCallOnConstant name pos)
  constant_back name pos r begun h =
      let s = constant_shown h.pick r begun h.unrefused h.first h.on in
      (ap (λ (x : Seen). x.end.whose) s, ap (λ (x : Seen). x.end.answer) s ∙ ap Err (sym h.says))

  pub constant_exactly : {f : Frame} {level : ℕ} {call : CallRequest} {node : CallNode} {before after : Moment H B} {cut : Bool} (name : Bytes) (pos : Position) → Runs o w f level call node before after cut → (seen node).begun ≡ true
      → IsOwn (seen node).end (ErrorNonPureMethodCallOnConstant name pos) ↔ IsForNoConstant w.engine f level call (ErrorNonPureMethodCallOnConstant name pos)
  constant_exactly name pos r begun = (constant_only name pos (runs_end r) begun, constant_back name pos r begun)

  -- faults 7 and 11
  kind_of_last : {f : Frame} (node : CallNode) {pick : Pick} {last : NativeStep} {fault : EvalAltResult} → EndsWith o w f (seen node) pick last
      → OwnKind w.engine (plan_of (seen node).call) pick last (seen node).end fault → RefusesKind o w f (seen node) fault
  kind_of_last {f} node {pick} came r = record {
    pick = pick;
    back = r.back;
    answer = r.answer;
    value = r.value;
    wanted = r.wanted;
    ended = subst (λ (x : NativeStep). EndsWith o w f (seen node) pick x) r.step_is came;
    within = r.within;
    other = r.other;
    says = r.says ∙ ap (λ (p : Position). ErrorMismatchOutputType r.wanted (display w.engine r.value) p) (plan_pos (seen node).call);
    refused = r.refused;
  }

  size_of_last : {f : Frame} (node : CallNode) {pick : Pick} {last : NativeStep} {fault : EvalAltResult} → EndsWith o w f (seen node) pick last
      → OwnSize w.engine (plan_of (seen node).call) pick last (seen node).end fault → RefusesSize o w f (seen node) fault
  size_of_last {f} node {pick} came r = record {
    pick = pick;
    back = r.back;
    value = r.value;
    what = r.what;
    ended = subst (λ (x : NativeStep). EndsWith o w f (seen node) pick x) r.step_is came;
    large = r.large;
    says = r.says ∙ ap (λ (p : Position). ErrorDataTooLarge r.what p) (plan_pos (seen node).call);
    refused = r.refused;
  }

  -- a value of the host's that isn't of the wanted kind
  hosts_other : (node : CallNode) {from to : H} {answer : HostAnswer} (v : Tree) (kind : TypeTag) → (seen node).pick ≡ None → HostEnds o w.engine (seen node).call from answer to (seen node).end
      → answer ≡ Value v → IsOfOtherKind (plan_of (seen node).call).want kind v
      → (seen node).end ≡ refusing (plan_of (seen node).call).given v (ErrorMismatchOutputType (wanted_name w.engine kind) (display w.engine v) (plan_of (seen node).call).pos)
      → RefusesHosts o w.engine (seen node) (ErrorMismatchOutputType (wanted_name w.engine kind) (display w.engine v) (plan_of (seen node).call).pos)
  hosts_other node {from} {to} v kind alone asked is other e = record {
    from = from;
    to = to;
    value = v;
    kind = kind;
    alone = alone;
    ended = subst (λ (x : HostAnswer). HostEnds o w.engine (seen node).call from x to (seen node).end) is asked;
    other = other;
    says = ap (λ (p : Position). ErrorMismatchOutputType (wanted_name w.engine kind) (display w.engine v) p) (plan_pos (seen node).call);
    refused = ap (λ (x : End). x.refused) e;
  }

  hosts_kind : (node : CallNode) {from to : H} {answer : HostAnswer} {fault : EvalAltResult} → HostEnds o w.engine (seen node).call from answer to (seen node).end → (seen node).pick ≡ None
      → HostSays w.engine (plan_of (seen node).call) answer (seen node).end → IsOwn (seen node).end fault → (number fault ≤ 4 → ⊥)
      → RefusesHosts o w.engine (seen node) fault
  hosts_kind node asked alone (says_nothing is e) h n = absurd (no_unfound w.engine (plan_of (seen node).call) (seen node).end e h n)
  hosts_kind node asked alone (says_fault own is e) h n = absurd (is_hosts (seen node).end (ap (λ (x : End). x.whose) e) h)
  hosts_kind node asked alone (says_other v kind is other e) h n = subst (RefusesHosts o w.engine (seen node)) (sym (not_own (seen node).end (ap (λ (x : End). x.answer) e) h.1)) (hosts_other node v kind alone asked is other e)
  hosts_kind node asked alone (says_value v is e) h n = absurd (is_hosts (seen node).end (ap (λ (x : End). x.whose) e) h)

  hosts_refused : {f : Frame} (node : CallNode) {from to : H} {answer : HostAnswer} (value : Tree) → HostEnds o w.engine (seen node).call from answer to (seen node).end → (seen node).pick ≡ None
      → HostSays w.engine (plan_of (seen node).call) answer (seen node).end → (seen node).end.refused ≡ Some value
      → RefusesValue o w f (seen node) value
  unfolding hosts_other
  hosts_refused node value asked alone (says_nothing is e) h = let q : None ≡ Some value = sym (ap (λ (x : End). x.refused) e) ∙ h in absurd cc
  hosts_refused node value asked alone (says_fault own is e) h = let q : None ≡ Some value = sym (ap (λ (x : End). x.refused) e) ∙ h in absurd cc
  hosts_refused node value asked alone (says_other v kind is other e) h =
      let q : Some v ≡ Some value = sym (ap (λ (x : End). x.refused) e) ∙ h in
      let same : v ≡ value = cc in for_host (hosts_other node v kind alone asked is other e) same
  hosts_refused node value asked alone (says_value v is e) h = let q : None ≡ Some value = sym (ap (λ (x : End). x.refused) e) ∙ h in absurd cc

  kind_only : {f : Frame} {level : ℕ} {call : CallRequest} {node : CallNode} {cut : Bool} (wanted got : Bytes) (pos : Position) → ShowsEnd f level call node cut
      → IsOwn (seen node).end (ErrorMismatchOutputType wanted got pos)
      → RefusesKind o w f (seen node) (ErrorMismatchOutputType wanted got pos) ⊎ RefusesHosts o w.engine (seen node) (ErrorMismatchOutputType wanted got pos)
  kind_only {node = node} wanted got pos (isnt_begun s) h = absurd (no_fault (seen node).end (ap (λ (x : Seen). x.end.answer) s) h.1 (λ q. absurd (omega (arith, q))))
  kind_only {node = node} wanted got pos (is_deep deep s) h = absurd (no_fault (seen node).end (ap (λ (x : Seen). x.end.answer) s) h.1 (λ q. absurd (omega (arith, q))))
  kind_only {node = node} wanted got pos (is_locked n l unqualified place s) h = absurd (no_fault (seen node).end (ap (λ (x : Seen). x.end.answer) s) h.1 (λ q. absurd (omega (arith, q))))
  kind_only {node = node} wanted got pos (is_rootless path l search none s) h = absurd (no_fault (seen node).end (ap (λ (x : Seen). x.end.answer) s) h.1 (λ q. absurd (omega (arith, q))))
  kind_only {call = call} {node = node} wanted got pos (is_missing l none s) h = absurd (no_missing w.engine call (seen node).end (ap (λ (x : Seen). x.end) s) h (λ q. absurd (omega (arith, q))))
  kind_only {node = node} wanted got pos (by_host from to answer l none c asked alone says) h = inr (hosts_kind node asked alone says h (λ q. absurd (omega (arith, q))))
  kind_only {node = node} wanted got pos (is_constant own l none u first on s) h = absurd (no_fault (seen node).end (ap (λ (x : Seen). x.end.answer) s) h.1 (λ q. absurd (omega (arith, q))))
  kind_only {f = f} {node = node} wanted got pos (has_ended pick last l none c came by) h =
      let one : OwnSize w.engine (plan_of (seen node).call) pick last (seen node).end (ErrorMismatchOutputType wanted got pos) ⊎ OwnKind w.engine (plan_of (seen node).call) pick last (seen node).end (ErrorMismatchOutputType wanted got pos) → RefusesKind o w f (seen node) (ErrorMismatchOutputType wanted got pos) =
      elim [ inl r ↦ (let q = ap number r.says in absurd (omega (arith, q))) | inr r ↦ kind_of_last node came r ]
      in inl (one (own_last (seen node).end (ErrorMismatchOutputType wanted got pos) by h))
  kind_only {node = node} wanted got pos (was_cut pick c l none begun shown e) h = absurd (no_fault (seen node).end (ap (λ (x : End). x.answer) e) h.1 (λ q. absurd (omega (arith, q))))

  kind_back : {f : Frame} (node : CallNode) (fault : EvalAltResult) → RefusesKind o w f (seen node) fault → IsOwn (seen node).end fault
  kind_back node fault r =
      let e = other_ends w.engine (plan_of (seen node).call) r.pick r.answer r.value r.back r.wanted (seen node).end r.within r.other r.ended.ends in
      (ap (λ (x : End). x.whose) e, ap (λ (x : End). x.answer) e ∙ ap (λ (p : Position). Err (ErrorMismatchOutputType r.wanted (display w.engine r.value) p)) (plan_pos (seen node).call) ∙ ap Err (sym r.says))

  hosts_back : (node : CallNode) (fault : EvalAltResult) → RefusesHosts o w.engine (seen node) fault → IsOwn (seen node).end fault
  hosts_back node fault r =
      let e = host_other w.engine (plan_of (seen node).call) r.value r.kind (seen node).end r.other r.ended.ends in
      (ap (λ (x : End). x.whose) e, ap (λ (x : End). x.answer) e ∙ ap (λ (p : Position). Err (ErrorMismatchOutputType (wanted_name w.engine r.kind) (display w.engine r.value) p)) (plan_pos (seen node).call) ∙ ap Err (sym r.says))

  kinds_back : {f : Frame} (node : CallNode) (fault : EvalAltResult) → RefusesKind o w f (seen node) fault ⊎ RefusesHosts o w.engine (seen node) fault → IsOwn (seen node).end fault
  kinds_back node fault (inl r) = kind_back node fault r
  kinds_back node fault (inr r) = hosts_back node fault r

  pub kind_exactly : {f : Frame} {level : ℕ} {call : CallRequest} {node : CallNode} {cut : Bool} (wanted got : Bytes) (pos : Position) → ShowsEnd f level call node cut
      → IsOwn (seen node).end (ErrorMismatchOutputType wanted got pos) ↔ (RefusesKind o w f (seen node) (ErrorMismatchOutputType wanted got pos) ⊎ RefusesHosts o w.engine (seen node) (ErrorMismatchOutputType wanted got pos))
  kind_exactly {node = node} wanted got pos ends = (kind_only wanted got pos ends, kinds_back node (ErrorMismatchOutputType wanted got pos))

  size_only : {f : Frame} {level : ℕ} {call : CallRequest} {node : CallNode} {cut : Bool} (what : Bytes) (pos : Position) → ShowsEnd f level call node cut
      → IsOwn (seen node).end (ErrorDataTooLarge what pos) → RefusesSize o w f (seen node) (ErrorDataTooLarge what pos)
  size_only {node = node} what pos (isnt_begun s) h = absurd (no_fault (seen node).end (ap (λ (x : Seen). x.end.answer) s) h.1 (λ q. absurd (omega (arith, q))))
  size_only {node = node} what pos (is_deep deep s) h = absurd (no_fault (seen node).end (ap (λ (x : Seen). x.end.answer) s) h.1 (λ q. absurd (omega (arith, q))))
  size_only {node = node} what pos (is_locked n l unqualified place s) h = absurd (no_fault (seen node).end (ap (λ (x : Seen). x.end.answer) s) h.1 (λ q. absurd (omega (arith, q))))
  size_only {node = node} what pos (is_rootless path l search none s) h = absurd (no_fault (seen node).end (ap (λ (x : Seen). x.end.answer) s) h.1 (λ q. absurd (omega (arith, q))))
  size_only {call = call} {node = node} what pos (is_missing l none s) h = absurd (no_missing w.engine call (seen node).end (ap (λ (x : Seen). x.end) s) h (λ q. absurd (omega (arith, q))))
  size_only {node = node} what pos (by_host from to answer l none c asked alone says) h = absurd (no_host (seen node).end says h (λ q. absurd (omega (arith, q))) (λ q. absurd (omega (arith, q))))
  size_only {node = node} what pos (is_constant own l none u first on s) h = absurd (no_fault (seen node).end (ap (λ (x : Seen). x.end.answer) s) h.1 (λ q. absurd (omega (arith, q))))
  size_only {f = f} {node = node} what pos (has_ended pick last l none c came by) h =
      let one : OwnSize w.engine (plan_of (seen node).call) pick last (seen node).end (ErrorDataTooLarge what pos) ⊎ OwnKind w.engine (plan_of (seen node).call) pick last (seen node).end (ErrorDataTooLarge what pos) → RefusesSize o w f (seen node) (ErrorDataTooLarge what pos) =
      elim [ inl r ↦ size_of_last node came r | inr r ↦ (let q = ap number r.says in absurd (omega (arith, q))) ]
      in one (own_last (seen node).end (ErrorDataTooLarge what pos) by h)
  size_only {node = node} what pos (was_cut pick c l none begun shown e) h = absurd (no_fault (seen node).end (ap (λ (x : End). x.answer) e) h.1 (λ q. absurd (omega (arith, q))))

  size_back : {f : Frame} (node : CallNode) (fault : EvalAltResult) → RefusesSize o w f (seen node) fault → IsOwn (seen node).end fault
  size_back node fault r =
      let e = large_ends w.engine (plan_of (seen node).call) r.pick r.value r.back r.what (seen node).end r.large r.ended.ends in
      (ap (λ (x : End). x.whose) e, ap (λ (x : End). x.answer) e ∙ ap (λ (p : Position). Err (ErrorDataTooLarge r.what p)) (plan_pos (seen node).call) ∙ ap Err (sym r.says))

  pub size_exactly : {f : Frame} {level : ℕ} {call : CallRequest} {node : CallNode} {cut : Bool} (what : Bytes) (pos : Position) → ShowsEnd f level call node cut
      → IsOwn (seen node).end (ErrorDataTooLarge what pos) ↔ RefusesSize o w f (seen node) (ErrorDataTooLarge what pos)
  size_exactly {node = node} what pos ends = (size_only what pos ends, size_back node (ErrorDataTooLarge what pos))

  -- fault 9 is that of a spent budget
  pub spends_not : {f : Frame} {level : ℕ} {call : CallRequest} {node : CallNode} {cut : Bool} → ShowsEnd f level call node cut → cut ≡ false → (seen node).begun ≡ true → IsOwn (seen node).end (ErrorTooManyOperations (pos_of call)) → ⊥
  spends_not (isnt_begun s) lasts begun h = let q : false ≡ true = sym (ap (λ (x : Seen). x.begun) s) ∙ begun in absurd cc
  spends_not {node = node} (is_deep deep s) lasts begun h = no_fault (seen node).end (ap (λ (x : Seen). x.end.answer) s) h.1 (λ q. absurd (omega (arith, q)))
  spends_not {node = node} (is_locked n l unqualified place s) lasts begun h = no_fault (seen node).end (ap (λ (x : Seen). x.end.answer) s) h.1 (λ q. absurd (omega (arith, q)))
  spends_not {node = node} (is_rootless path l search none s) lasts begun h = no_fault (seen node).end (ap (λ (x : Seen). x.end.answer) s) h.1 (λ q. absurd (omega (arith, q)))
  spends_not {call = call} {node = node} (is_missing l none s) lasts begun h = no_missing w.engine call (seen node).end (ap (λ (x : Seen). x.end) s) h (λ q. absurd (omega (arith, q)))
  spends_not {node = node} (by_host from to answer l none c asked alone says) lasts begun h = no_host (seen node).end says h (λ q. absurd (omega (arith, q))) (λ q. absurd (omega (arith, q)))
  spends_not {node = node} (is_constant own l none u first on s) lasts begun h = no_fault (seen node).end (ap (λ (x : Seen). x.end.answer) s) h.1 (λ q. absurd (omega (arith, q)))
  spends_not {call = call} {node = node} (has_ended pick last l none c came by) lasts begun h = no_other (seen node).end (ErrorTooManyOperations (pos_of call)) by (λ q. absurd (omega (arith, q))) (λ q. absurd (omega (arith, q))) h
  spends_not (was_cut pick c l none begun' shown e) lasts begun h = let q : true ≡ false = sym c ∙ lasts in absurd cc

  -- and fault 10 that of a level above the limit
  pub overflows : {f : Frame} {level : ℕ} {call : CallRequest} {node : CallNode} {cut : Bool} (pos : Position) → ShowsEnd f level call node cut → (seen node).begun ≡ true
      → IsOwn (seen node).end (ErrorStackOverflow pos) → (w.engine.limits.level < level) × (pos ≡ pos_of call)
  overflows pos (isnt_begun s) begun h = let q : false ≡ true = sym (ap (λ (x : Seen). x.begun) s) ∙ begun in absurd cc
  overflows {call = call} {node = node} pos (is_deep deep s) begun h = (deep, same_overflow (not_own (seen node).end (ap (λ (x : Seen). x.end.answer) s) h.1))
  overflows {node = node} pos (is_locked n l unqualified place s) begun h = absurd (no_fault (seen node).end (ap (λ (x : Seen). x.end.answer) s) h.1 (λ q. absurd (omega (arith, q))))
  overflows {node = node} pos (is_rootless path l search none s) begun h = absurd (no_fault (seen node).end (ap (λ (x : Seen). x.end.answer) s) h.1 (λ q. absurd (omega (arith, q))))
  overflows {call = call} {node = node} pos (is_missing l none s) begun h = absurd (no_missing w.engine call (seen node).end (ap (λ (x : Seen). x.end) s) h (λ q. absurd (omega (arith, q))))
  overflows {node = node} pos (by_host from to answer l none c asked alone says) begun h = absurd (no_host (seen node).end says h (λ q. absurd (omega (arith, q))) (λ q. absurd (omega (arith, q))))
  overflows {node = node} pos (is_constant own l none u first on s) begun h = absurd (no_fault (seen node).end (ap (λ (x : Seen). x.end.answer) s) h.1 (λ q. absurd (omega (arith, q))))
  overflows {call = call} {node = node} pos (has_ended pick last l none c came by) begun h = absurd (no_other (seen node).end (ErrorStackOverflow pos) by (λ q. absurd (omega (arith, q))) (λ q. absurd (omega (arith, q))) h)
  overflows {node = node} pos (was_cut pick c l none begun' shown e) begun h = absurd (no_fault (seen node).end (ap (λ (x : End). x.answer) e) h.1 (λ q. absurd (omega (arith, q))))

  -- a node shows a refused value in these two cases alone
  refused_only : {f : Frame} {level : ℕ} {call : CallRequest} {node : CallNode} {cut : Bool} (value : Tree) → ShowsEnd f level call node cut → (seen node).end.refused ≡ Some value → RefusesValue o w f (seen node) value
  unfolding size_of_last kind_of_last
  refused_only value (isnt_begun s) h = let q : None ≡ Some value = sym (ap (λ (x : Seen). x.end.refused) s) ∙ h in absurd cc
  refused_only value (is_deep deep s) h = let q : None ≡ Some value = sym (ap (λ (x : Seen). x.end.refused) s) ∙ h in absurd cc
  refused_only value (is_locked n l unqualified place s) h = let q : None ≡ Some value = sym (ap (λ (x : Seen). x.end.refused) s) ∙ h in absurd cc
  refused_only value (is_rootless path l search none s) h = let q : None ≡ Some value = sym (ap (λ (x : Seen). x.end.refused) s) ∙ h in absurd cc
  refused_only value (is_missing l none s) h = let q : None ≡ Some value = sym (ap (λ (x : Seen). x.end.refused) s) ∙ h in absurd cc
  refused_only {node = node} value (by_host from to answer l none c asked alone says) h = hosts_refused node value asked alone says h
  refused_only value (is_constant own l none u first on s) h = let q : None ≡ Some value = sym (ap (λ (x : Seen). x.end.refused) s) ∙ h in absurd cc
  refused_only {f = f} {node = node} value (has_ended pick last l none c came by) h =
      let one : RefusedLast w.engine (plan_of (seen node).call) pick last (seen node).end value → RefusesValue o w f (seen node) value =
      elim [ inl r ↦ for_size (size_of_last node came r.1) r.2 | inr r ↦ for_kind (kind_of_last node came r.1) r.2 ]
      in one (refused_last value by h)
  refused_only value (was_cut pick c l none begun shown e) h = let q : None ≡ Some value = sym (ap (λ (x : End). x.refused) e) ∙ h in absurd cc

  refused_back : {f : Frame} (node : CallNode) (value : Tree) → RefusesValue o w f (seen node) value → (seen node).end.refused ≡ Some value
  refused_back node value (for_kind r e) = r.refused ∙ ap Some e
  refused_back node value (for_size r e) = r.refused ∙ ap Some e
  refused_back node value (for_host r e) = r.refused ∙ ap Some e

  pub refused_exactly : {f : Frame} {level : ℕ} {call : CallRequest} {node : CallNode} {cut : Bool} (value : Tree) → ShowsEnd f level call node cut → ((seen node).end.refused ≡ Some value) ↔ RefusesValue o w f (seen node) value
  refused_exactly {node = node} value ends = (refused_only value ends, refused_back node value)

  -- the first argument
  pub first_alone : {f : Frame} {level : ℕ} {call : CallRequest} {node : CallNode} {cut : Bool} → ShowsEnd f level call node cut → (seen node).pick ≡ None → (seen node).end.first_after ≡ given call
  first_alone (isnt_begun s) h = ap (λ (x : Seen). x.end.first_after) s
  first_alone (is_deep deep s) h = ap (λ (x : Seen). x.end.first_after) s
  first_alone (is_locked n l unqualified place s) h = ap (λ (x : Seen). x.end.first_after) s
  first_alone (is_rootless path l search none s) h = ap (λ (x : Seen). x.end.first_after) s
  first_alone {call = call} (is_missing l none s) h = ap (λ (x : Seen). x.end.first_after) s ∙ plan_given call
  first_alone {call = call} (by_host from to answer l none c asked alone says) h = host_first says ∙ ap (λ (k : CallRequest). (plan_of k).given) c ∙ plan_given call
  first_alone (is_constant own l none u first on s) h = let q : Some own ≡ None = sym (ap (λ (x : Seen). x.pick) s) ∙ h in absurd cc
  first_alone (has_ended pick last l none c came by) h = let q : Some pick ≡ None = sym came.shown ∙ h in absurd cc
  first_alone (was_cut pick c l none begun shown e) h = let q : Some pick ≡ None = sym shown ∙ h in absurd cc

  -- what came of it where a function ran to its end
  record RanFirst (f : Frame) (call : CallRequest) (node : CallNode) (pick : Pick) : Type 0 where
    last : NativeStep
    came : EndsWith o w f (seen node) pick last
    first : (seen node).end.first_after ≡ first_at_end w.engine (plan_of call) pick (back_of last)

  ran_first : {f : Frame} {level : ℕ} {call : CallRequest} {node : CallNode} {cut : Bool} (pick : Pick) → ShowsEnd f level call node cut → cut ≡ false → (seen node).pick ≡ Some pick
      → RanFirst f call node pick ⊎ (IsOnConstant w.engine (plan_of call) pick × ((seen node).end.first_after ≡ given call))
  ran_first pick (isnt_begun s) lasts h = let q : None ≡ Some pick = sym (ap (λ (x : Seen). x.pick) s) ∙ h in absurd cc
  ran_first pick (is_deep deep s) lasts h = let q : None ≡ Some pick = sym (ap (λ (x : Seen). x.pick) s) ∙ h in absurd cc
  ran_first pick (is_locked n l unqualified place s) lasts h = let q : None ≡ Some pick = sym (ap (λ (x : Seen). x.pick) s) ∙ h in absurd cc
  ran_first pick (is_rootless path l search none s) lasts h = let q : None ≡ Some pick = sym (ap (λ (x : Seen). x.pick) s) ∙ h in absurd cc
  ran_first pick (is_missing l none s) lasts h = let q : None ≡ Some pick = sym (ap (λ (x : Seen). x.pick) s) ∙ h in absurd cc
  ran_first pick (by_host from to answer l none c asked alone says) lasts h = let q : None ≡ Some pick = sym alone ∙ h in absurd cc
  ran_first {call = call} pick (is_constant own l none u first on s) lasts h =
      let q : Some own ≡ Some pick = sym (ap (λ (x : Seen). x.pick) s) ∙ h in
      let same : own ≡ pick = cc in inr (subst (IsOnConstant w.engine (plan_of call)) same on, ap (λ (x : Seen). x.end.first_after) s ∙ plan_given call)
  ran_first {f = f} {call = call} {node = node} pick (has_ended own last l none c came by) lasts h =
      let q : Some own ≡ Some pick = sym came.shown ∙ h in
      let same : own ≡ pick = cc in
      inl (record {
        last = last;
        came = subst (λ (x : Pick). EndsWith o w f (seen node) x last) same came;
        first = ends_first by ∙ (λ i. first_at_end w.engine (plan_of (c i)) (same i) (back_of last));
      })
  ran_first pick (was_cut own c l none begun shown e) lasts h = let q : true ≡ false = sym c ∙ lasts in absurd cc

  pub first_copied : {f : Frame} {level : ℕ} {call : CallRequest} {node : CallNode} {cut : Bool} (pick : Pick) → ShowsEnd f level call node cut → cut ≡ false → (seen node).pick ≡ Some pick
      → has_the_given (convention_of w.engine.natives pick.func) (plan_of call).shape ≡ false
      → (seen node).end.first_after ≡ given call
  first_copied {f} {call = call} {node = node} pick ends lasts h copy =
      let by : RanFirst f call node pick ⊎ (IsOnConstant w.engine (plan_of call) pick × ((seen node).end.first_after ≡ given call)) → (seen node).end.first_after ≡ given call =
      elim [
        | inl r ↦ r.first ∙ ap (λ (b : Bool). if b then back_of r.last else (plan_of call).given) copy ∙ plan_given call
        | inr r ↦ r.1
      ] in
      by (ran_first pick ends lasts h)

  pub first_itself : {f : Frame} {level : ℕ} {call : CallRequest} {node : CallNode} {cut : Bool} (pick : Pick) → ShowsEnd f level call node cut → cut ≡ false → (seen node).pick ≡ Some pick
      → has_the_given (convention_of w.engine.natives pick.func) (plan_of call).shape ≡ true
      → ShowsGivenBack o w f (seen node) pick ⊎ (IsOnConstant w.engine (plan_of call) pick × ((seen node).end.first_after ≡ given call))
  first_itself {f} {call = call} {node = node} pick ends lasts h itself =
      let by : RanFirst f call node pick ⊎ (IsOnConstant w.engine (plan_of call) pick × ((seen node).end.first_after ≡ given call)) → ShowsGivenBack o w f (seen node) pick ⊎ (IsOnConstant w.engine (plan_of call) pick × ((seen node).end.first_after ≡ given call)) =
      elim [
        | inl r ↦ inl (r.last, r.came, r.first ∙ ap (λ (b : Bool). if b then back_of r.last else (plan_of call).given) itself)
        | inr r ↦ inr r
      ] in
      by (ran_first pick ends lasts h)

  -- by the function and the shape
  pub native_leaves : {f : Frame} {level : ℕ} {call : CallRequest} {node : CallNode} {cut : Bool} (pick : Pick) → ShowsEnd f level call node cut → cut ≡ false → (seen node).pick ≡ Some pick
      → is_script pick.func ≡ false → is_method w.engine.natives pick.func ≡ false
      → (seen node).end.first_after ≡ given call
  native_leaves {call = call} pick ends lasts h s m = first_copied pick ends lasts h (copies_native w.engine pick.func (plan_of call).shape s m)

  pub script_leaves : {f : Frame} {level : ℕ} {call : CallRequest} {node : CallNode} {cut : Bool} (pick : Pick) (first : Tree) (args : List Tree) → ShowsEnd f level call node cut → cut ≡ false
      → (seen node).pick ≡ Some pick → is_script pick.func ≡ true
      → (plan_of call).shape ≡ ByRef first args → (seen node).end.first_after ≡ Some first
  script_leaves {call = call} pick first args ends lasts h s is =
      first_copied pick ends lasts h (ap (has_the_given (convention_of w.engine.natives pick.func)) is ∙ copies_script w.engine pick.func first args s) ∙ sym (given_shape call) ∙ ap first_given is

  pub method_gives : {f : Frame} {level : ℕ} {call : CallRequest} {node : CallNode} {cut : Bool} (pick : Pick) (first : Tree) → ShowsEnd f level call node cut → cut ≡ false
      → (seen node).pick ≡ Some pick → is_method w.engine.natives pick.func ≡ true → given call ≡ Some first
      → ShowsGivenBack o w f (seen node) pick ⊎ (IsOnConstant w.engine (plan_of call) pick × ((seen node).end.first_after ≡ given call))
  method_gives {call = call} pick first ends lasts h m is = first_itself pick ends lasts h (has_in_method w.engine pick.func (plan_of call).shape first m (given_shape call ∙ is))

  pub object_gives : {f : Frame} {level : ℕ} {call : CallRequest} {node : CallNode} {cut : Bool} (pick : Pick) (object : Tree) (args : List Tree) → ShowsEnd f level call node cut → cut ≡ false
      → (seen node).pick ≡ Some pick → is_script pick.func ≡ true
      → (plan_of call).shape ≡ Method object args → ShowsGivenBack o w f (seen node) pick
  object_gives {f} {call = call} {node = node} pick object args ends lasts h s is =
      let by : ShowsGivenBack o w f (seen node) pick ⊎ (IsOnConstant w.engine (plan_of call) pick × ((seen node).end.first_after ≡ given call)) → ShowsGivenBack o w f (seen node) pick =
      elim [ inl gives ↦ gives | inr on ↦ absurd (no_script w.engine (plan_of call) pick s on.0) ]
      in by (first_itself pick ends lasts h (ap (has_the_given (convention_of w.engine.natives pick.func)) is ∙ has_object w.engine pick.func object args s))
