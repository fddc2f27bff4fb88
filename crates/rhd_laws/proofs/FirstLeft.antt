-- What is left of a first argument after the call.
use Rattle.std.proofs.Common.{◌≡◌, ℕ, Bool, true, false, List, [], ◌∷◌, refl, sym, ap, ◌∙◌}
use Rattle.std.specs.Prelude.{◌↔◌, Option, None, Some, is_some}
use Rattle.rhd_value.specs.Tree.{Tree}
use Rattle.rhd_func.specs.declared.request.Carry.{Carry}
use Rattle.rhd_func.specs.declared.request.CallRequest.{CallRequest}
use Rattle.rhd_func.specs.declared.request.CallRequest.TheVariants.{Named, Qualified}
use Rattle.rhd_func.specs.declared.request.CallShape.{CallShape}
use Rattle.rhd_func.specs.declared.request.CallShape.TheVariants.{Plain, ByRef, Method}
use Rattle.rhd_func.specs.declared.request.NativeStep.{NativeStep}
use Rattle.rhd_func.specs.GivenBack.{back_of}
use Rattle.rhd_func.specs.declared.func.RhaiFunc.{RhaiFunc}
use Rattle.rhd_func.specs.declared.request.NativeCallContext.{NativeCallContext}
use Rattle.rhd_func.specs.Natives.{NativeInfo}
use Rattle.rhd_func.specs.Shapes.{first_given, given}
use Rattle.rhd_call.specs.End.{End}
use Rattle.rhd_call.specs.Seen.{Seen, seen, cut_end}
use Rattle.rhd_call.specs.Trees.{InTree}
use Rattle.rhd_call.specs.declared.node.CallNode.{CallNode}
use Rattle.rhd_call.specs.declared.pick.Pick.{Pick}
use Rattle.rhd_engine.specs.Engine.{EngineLists, Frame}
use Rattle.rhd_machine.specs.Ends.{first_at_end}
use Rattle.rhd_machine.specs.Plans.{Plan, plan_of}
use Rattle.rhd_machine.specs.Received.{Convention, native_method, other_native, script, Received, received, convention_of, first_after}
use Rattle.rhd_machine.specs.Runs.{Runs, not_begun, ended, host_answered, finished, cut_short, Steps, none_yet, one_more}
use Rattle.rhd_machine.specs.Steps.{Starts, native_starts, body_starts, Resumes, native_resumes, body_resumes}
use Rattle.rhd_machine.specs.World.{World, Objects, Moment}
use Rattle.rhd_laws.specs.Arguments.{HasFirstGiven, by_reference, of_method, IsCut}
use Rattle.rhd_laws.specs.Causes.{EndsWith}
use Rattle.rhd_laws.proofs.HostEnds.{host_first}
use Rattle.rhd_laws.proofs.NodeEnds.{ends_first, plan_given, given_shape, ShowsEnd, isnt_begun, is_deep, is_locked, is_rootless, is_missing, by_host, is_constant, has_ended, was_cut, runs_end}
use Rattle.rhd_laws.proofs.TreeFaults.{cut_exactly}
use Rattle.rhd_laws.proofs.TreeLaws.{tree_runs}

-- A step gives a first argument back exactly where one was given.

starts_give : {H B : Type 0} {o : Objects H B} {natives : List NativeInfo} {ctx : NativeCallContext} {func : RhaiFunc} {r : Received} {s t : Moment H B} {step : NativeStep}
    → Starts o natives ctx func r s step t → is_some (back_of step) ≡ is_some r.first
starts_give (native_starts i a b) = b
starts_give (body_starts a b) = b

resumes_give : {H B : Type 0} {o : Objects H B} {natives : List NativeInfo} {ctx : NativeCallContext} {func : RhaiFunc} {carry : Carry} {done : _} {s t : Moment H B} {step : NativeStep}
    → Resumes o natives ctx func carry done s step t → is_some (back_of step) ≡ is_some carry.first
resumes_give (native_resumes i a b) = b
resumes_give (body_resumes a b) = b

-- so a call shows one exactly where one was given
kept_by : (convention : Convention) (shape : CallShape) (back : Option Tree) → is_some back ≡ is_some (received convention shape).first → is_some (first_after convention shape (first_given shape) back) ≡ is_some (first_given shape)
kept_by native_method (Plain []) back h = refl
kept_by native_method (Plain (a ∷ args)) back h = refl
kept_by native_method (ByRef a args) back h = h
kept_by native_method (Method object args) back h = h
kept_by other_native shape back h = refl
kept_by script (Plain args) back h = refl
kept_by script (ByRef a args) back h = refl
kept_by script (Method object args) back h = h

end_kept : (e : EngineLists) (call : CallRequest) (pick : Pick) (back : Option Tree) → is_some back ≡ is_some (received (convention_of e.natives pick.func) (plan_of call).shape).first
    → is_some (first_at_end e (plan_of call) pick back) ≡ is_some (given call)
end_kept e (Named name token native_only shape want pos) pick back h = kept_by (convention_of e.natives pick.func) shape back h
end_kept e (Qualified path name (Plain args) pos) pick back h = kept_by (convention_of e.natives pick.func) (Plain args) back h
end_kept e (Qualified path name (ByRef first args) pos) pick back h = kept_by (convention_of e.natives pick.func) (ByRef first args) back h
end_kept e (Qualified path name (Method object args) pos) pick back h = kept_by (convention_of e.natives pick.func) (ByRef object args) back h

-- a request has a first argument given exactly where it is by reference or of a method
has_by : (shape : CallShape) → is_some (first_given shape) ≡ true → HasFirstGiven shape
has_by (Plain args) h = absurd cc
has_by (ByRef first args) h = by_reference first args refl
has_by (Method object args) h = of_method object args refl

has_is : (shape : CallShape) → HasFirstGiven shape → is_some (first_given shape) ≡ true
has_is shape (by_reference first args is) = ap (λ (s : CallShape). is_some (first_given s)) is
has_is shape (of_method object args is) = ap (λ (s : CallShape). is_some (first_given s)) is

value_of : (o : Option Tree) → is_some o ≡ true → (value : Tree) × (o ≡ Some value)
value_of None h = absurd cc
value_of (Some v) h = (v, refl)

none_of : (o : Option Tree) → is_some o ≡ false → o ≡ None
none_of None h = refl
none_of (Some v) h = absurd cc

module _ {H B : Type 0} (o : Objects H B) (w : World) where
  steps_give : {f : Frame} {level : ℕ} {plan : Plan} {pick : Pick} {first last : NativeStep} {carries : List Carry} {children : List CallNode} {before after : Moment H B}
      → Steps o w f level plan pick first carries children last before after → is_some (back_of last) ≡ is_some (back_of first)
  steps_give none_yet = refl
  steps_give (one_more steps r next p q) = resumes_give next ∙ steps_give steps

  last_kept : {f : Frame} (node : Seen) (pick : Pick) (last : NativeStep) → EndsWith o w f node pick last → is_some (first_at_end w.engine (plan_of node.call) pick (back_of last)) ≡ is_some (given node.call)
  last_kept node pick last came = end_kept w.engine node.call pick (back_of last) (steps_give came.steps ∙ starts_give came.starts)

  -- a node shows a first argument exactly where one was given, or none where it was cut
  data FirstShown (call : CallRequest) (node : CallNode) : Type 0 where
    is_kept : is_some (seen node).end.first_after ≡ is_some (given call) → FirstShown call node
    is_lost : (seen node).begun ≡ true → (seen node).end ≡ cut_end call → FirstShown call node

  first_shown : {f : Frame} {level : ℕ} {call : CallRequest} {node : CallNode} {cut : Bool} → ShowsEnd o w f level call node cut → FirstShown call node
  first_shown (isnt_begun s) = is_kept (ap (λ (x : Seen). is_some x.end.first_after) s)
  first_shown (is_deep deep s) = is_kept (ap (λ (x : Seen). is_some x.end.first_after) s)
  first_shown (is_locked n l unqualified place s) = is_kept (ap (λ (x : Seen). is_some x.end.first_after) s)
  first_shown (is_rootless path l search none s) = is_kept (ap (λ (x : Seen). is_some x.end.first_after) s)
  first_shown {call = call} (is_missing l none s) = is_kept (ap (λ (x : Seen). is_some x.end.first_after) s ∙ ap is_some (plan_given call))
  first_shown {call = call} (by_host from to answer l none c asked alone says) = is_kept (ap is_some (host_first says ∙ ap (λ (k : CallRequest). (plan_of k).given) c ∙ plan_given call))
  first_shown {call = call} (is_constant own l none u first on s) = is_kept (ap (λ (x : Seen). is_some x.end.first_after) s ∙ ap is_some (plan_given call))
  first_shown {node = node} (has_ended pick last l none c came by) = is_kept (ap is_some (ends_first by) ∙ last_kept (seen node) pick last came ∙ ap (λ (x : CallRequest). is_some (given x)) c)
  first_shown (was_cut pick c l none begun shown e) = is_lost begun e

  cut_by : (node : CallNode) → (seen node).begun ≡ true → (seen node).end ≡ cut_end (seen node).call → IsCut (seen node)
  cut_by node begun e = (begun, (ap (λ (x : End). x.whose) e, ap (λ (x : End). x.answer) e))

  kept_exactly : (node : CallNode) → FirstShown (seen node).call node → (IsCut (seen node) → ⊥) → ((value : Tree) × ((seen node).end.first_after ≡ Some value)) ↔ HasFirstGiven (plan_of (seen node).call).shape
  kept_exactly node (is_lost begun e) whole = absurd (whole (cut_by node begun e))
  kept_exactly node (is_kept h) whole = (
    λ some. has_by (plan_of (seen node).call).shape (ap is_some (given_shape (seen node).call) ∙ sym h ∙ ap is_some some.1),
    λ has. value_of (seen node).end.first_after (h ∙ sym (ap is_some (given_shape (seen node).call)) ∙ has_is (plan_of (seen node).call).shape has),
  )

  -- each call of a tree that isn't cut has a first argument after it exactly where one was given
  pub tree_first : {node root : CallNode} (inside : InTree node root) {f : Frame} {level : ℕ} {call : CallRequest} {before after : Moment H B} {cut : Bool} → Runs o w f level call root before after cut → (IsCut (seen node) → ⊥) →
      ((value : Tree) × ((seen node).end.first_after ≡ Some value)) ↔ HasFirstGiven (plan_of (seen node).call).shape
  tree_first {node} inside r whole = kept_exactly node (first_shown (runs_end o w (tree_runs o w inside r).3)) whole

  none_kept : (node : CallNode) (args : List Tree) → FirstShown (seen node).call node → (plan_of (seen node).call).shape ≡ Plain args → (seen node).end.first_after ≡ None
  none_kept node args (is_lost begun e) is = ap (λ (x : End). x.first_after) e
  none_kept node args (is_kept h) is = none_of (seen node).end.first_after (h ∙ sym (ap is_some (given_shape (seen node).call)) ∙ ap (λ (s : CallShape). is_some (first_given s)) is)

  -- a plain call has none
  pub tree_plain : {node root : CallNode} (inside : InTree node root) {f : Frame} {level : ℕ} {call : CallRequest} {before after : Moment H B} {cut : Bool} (args : List Tree)
      → Runs o w f level call root before after cut → (plan_of (seen node).call).shape ≡ Plain args → (seen node).end.first_after ≡ None
  tree_plain {node} inside args r is = none_kept node args (first_shown (runs_end o w (tree_runs o w inside r).3)) is

  cut_shows : {f : Frame} {level : ℕ} {call : CallRequest} {node : CallNode} {before after : Moment H B} {cut : Bool} → Runs o w f level call node before after cut → cut ≡ true → (seen node).begun ≡ true → (seen node).end.first_after ≡ None
  cut_shows (not_begun b s) spent begun = let q : false ≡ true = sym (ap (λ (x : Seen). x.begun) s) ∙ begun in absurd cc
  cut_shows (ended b d s) spent begun = absurd cc
  cut_shows (host_answered b d a s) spent begun = absurd cc
  cut_shows (finished b d starts steps e s) spent begun = absurd cc
  cut_shows (cut_short b d starts steps r s) spent begun = ap (λ (x : Seen). x.end.first_after) s

  -- nor has one that is cut
  pub tree_lost : {node root : CallNode} (inside : InTree node root) {f : Frame} {level : ℕ} {call : CallRequest} {before after : Moment H B} {cut : Bool} → Runs o w f level call root before after cut
      → IsCut (seen node) → (seen node).end.first_after ≡ None
  tree_lost inside r is = let own = (tree_runs o w inside r).3 in cut_shows own ((cut_exactly o w own).1 is.1) is.0
