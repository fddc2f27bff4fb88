-- Which nodes of a tree show a printed text, and what their calls answer.
use Rattle.std.proofs.Common.{◌≡◌, ℕ, Bool, true, sym, ap, ◌∙◌, subst, ◌⊎◌, inl, inr}
use Rattle.std.specs.Prelude.{◌↔◌, Option, None, Some, Result, Ok, Err}
use Rattle.rhd_value.specs.Tree.{Bytes, Tree, unit}
use Rattle.rhd_value.specs.Kinds.{plain, text_in}
use Rattle.rhd_value.specs.declared.tag.TypeTag.{TypeTag}
use Rattle.rhd_value.specs.declared.fault.EvalAltResult.{EvalAltResult}
use Rattle.rhd_func.specs.declared.request.CallRequest.{CallRequest}
use Rattle.rhd_func.specs.declared.request.HostAnswer.{HostAnswer}
use Rattle.rhd_func.specs.declared.request.NativeStep.{NativeStep}
use Rattle.rhd_func.specs.declared.request.NativeStep.TheVariants.{Done}
use Rattle.rhd_engine.specs.Engine.{EngineLists, Frame}
use Rattle.rhd_machine.specs.World.{World, Objects, Moment}
use Rattle.rhd_call.specs.End.{End, failed}
use Rattle.rhd_engine.specs.declared.limits.Printers.{Printers}
use Rattle.rhd_call.specs.declared.node.CallNode.{CallNode}
use Rattle.rhd_call.specs.declared.node.Whose.TheVariants.{Call, Called}
use Rattle.rhd_call.specs.declared.pick.Pick.{Pick}
use Rattle.rhd_machine.specs.Plans.{Plan, plan_of}
use Rattle.rhd_laws.specs.Prints.{Prints, IsPrintable, Makes, unit_for_it, itself}
use Rattle.rhd_laws.specs.Causes.{AreWithin, IsOfOtherKind, EndsWith}
use Rattle.rhd_laws.specs.PrintedTexts.{ShowsText, AnswersValue}
use Rattle.rhd_call.specs.Seen.{Seen, seen}
use Rattle.rhd_machine.specs.Runs.{Runs}
use Rattle.rhd_call.specs.Trees.{InTree}
use Rattle.rhd_machine.specs.Trees.{frame_at}
use Rattle.rhd_laws.proofs.PrintedEnds.{printed_prints, prints_printed}
use Rattle.rhd_laws.proofs.HostEnds.{HostSays, host_unprinted}
use Rattle.rhd_laws.proofs.Owned.{not_called}
use Rattle.rhd_laws.proofs.LastSteps.{EndsBy, fails, is_large, is_other, fits, printed_ends, none_other, value_ends}
use Rattle.rhd_laws.proofs.NodeEnds.{ShowsEnd, isnt_begun, is_deep, is_locked, is_rootless, is_missing, by_host, is_constant, has_ended, was_cut, runs_end}
use Rattle.rhd_laws.proofs.TreeLaws.{tree_runs}

-- a last step with which the call prints
record LastPrints (e : EngineLists) (plan : Plan) (pick : Pick) (step : NativeStep) (text : Bytes) : Type 0 where
  answer : Tree
  back : Option Tree
  step_is : step ≡ Done answer back
  within : AreWithin e plan pick back answer
  set : Prints e.printers plan pick true
  is_text : text_in answer.kind ≡ Some text

last_prints : {e : EngineLists} {plan : Plan} {pick : Pick} {step : NativeStep} {end : End} (text : Bytes) → EndsBy e plan pick step end → end.printed ≡ Some text → LastPrints e plan pick step text
last_prints text (fails own back is by) h = let q : None ≡ Some text = sym (ap (λ (x : End). x.printed) by) ∙ h in absurd cc
last_prints text (is_large v back what is l by) h = let q : None ≡ Some text = sym (ap (λ (x : End). x.printed) by) ∙ h in absurd cc
last_prints {e} {plan} {pick} text (is_other v made back wanted is within other by) h =
    let p = printed_prints e plan pick v text (sym (ap (λ (x : End). x.printed) by) ∙ h) in
    record { answer = v; back = back; step_is = is; within = within; set = p.0; is_text = p.1 }
last_prints {e} {plan} {pick} text (fits v made back is within printable makes wanted by) h =
    let p = printed_prints e plan pick v text (sym (ap (λ (x : End). x.printed) by) ∙ h) in
    record { answer = v; back = back; step_is = is; within = within; set = p.0; is_text = p.1 }

no_answer : {fault : EvalAltResult} {value : Tree} → ◌≡◌ {A = Result Tree EvalAltResult} (Err fault) (Ok value) → ⊥
no_answer q = absurd cc

ok_same : {a b : Tree} → ◌≡◌ {A = Result Tree EvalAltResult} (Ok a) (Ok b) → a ≡ b
ok_same q = cc

some_pick : {a b : Pick} → Some a ≡ Some b → a ≡ b
some_pick q = cc

-- a last step with which the call answers a value
record LastAnswers (e : EngineLists) (plan : Plan) (pick : Pick) (step : NativeStep) (value : Tree) : Type 0 where
  answer : Tree
  back : Option Tree
  step_is : step ≡ Done answer back
  within : AreWithin e plan pick back answer
  printable : IsPrintable e.printers plan pick answer
  makes : Makes e.printers plan pick answer value
  wanted : (kind : TypeTag) → IsOfOtherKind plan.want kind value → ⊥

last_answers : {e : EngineLists} {plan : Plan} {pick : Pick} {step : NativeStep} {end : End} (value : Tree) → EndsBy e plan pick step end → end.answer ≡ Ok value → LastAnswers e plan pick step value
last_answers value (fails own back is by) h = absurd (no_answer (sym (ap (λ (x : End). x.answer) by) ∙ h))
last_answers value (is_large v back what is l by) h = absurd (no_answer (sym (ap (λ (x : End). x.answer) by) ∙ h))
last_answers value (is_other v made back wanted is within other by) h = absurd (no_answer (sym (ap (λ (x : End). x.answer) by) ∙ h))
last_answers {e} {plan} {pick} value (fits v made back is within printable makes wanted by) h =
    let same : made ≡ value = ok_same (sym (ap (λ (x : End). x.answer) by) ∙ h) in
    record {
      answer = v;
      back = back;
      step_is = is;
      within = within;
      printable = printable;
      makes = subst (Makes e.printers plan pick v) same makes;
      wanted = subst (λ (x : Tree). (kind : TypeTag) → IsOfOtherKind plan.want kind x → ⊥) same (λ kind. none_other e plan.want plan.pos made kind wanted);
    }

-- what a call of `print` or `debug` makes of a value
made_unit : {printers : Printers} {plan : Plan} {pick : Pick} {v made : Tree} (set : Bool) → Prints printers plan pick set → Makes printers plan pick v made → made ≡ plain unit
made_unit set prints (unit_for_it s p is) = is
made_unit set prints (itself none is) = absurd (none set prints)

module _ {H B : Type 0} (o : Objects H B) (w : World) where
  -- the function of a node came to a last step
  record RanOut (f : Frame) (node : CallNode) : Type 0 where
    pick : Pick
    last : NativeStep
    came : EndsWith o w f (seen node) pick last
    by : EndsBy w.engine (plan_of (seen node).call) pick last (seen node).end

  -- or nothing is printed, and the function answers nothing
  record SaysNothing (node : CallNode) : Type 0 where
    unprinted : (seen node).end.printed ≡ None
    own : (seen node).end.whose ≡ Called → ⊥
    unanswered : (pick : Pick) (value : Tree) → (seen node).pick ≡ Some pick → (seen node).end.answer ≡ Ok value → ⊥

  says_nothing : (node : CallNode) (first : Option Tree) (fault : EvalAltResult) → (seen node).end ≡ failed first fault → SaysNothing node
  says_nothing node first fault e = record {
    unprinted = ap (λ (x : End). x.printed) e;
    own = λ h. let q : Call ≡ Called = sym (ap (λ (x : End). x.whose) e) ∙ h in absurd cc;
    unanswered = λ pick value is h. no_answer (sym (ap (λ (x : End). x.answer) e) ∙ h);
  }

  hosts_nothing : (node : CallNode) {answer : HostAnswer} → (seen node).pick ≡ None → HostSays w.engine (plan_of (seen node).call) answer (seen node).end → SaysNothing node
  hosts_nothing node alone says = record {
    unprinted = host_unprinted says;
    own = not_called says;
    unanswered = λ pick value is h. let q : None ≡ Some pick = sym alone ∙ is in absurd cc;
  }

  ran_or_not : {f : Frame} {level : ℕ} {call : CallRequest} {node : CallNode} {cut : Bool} → ShowsEnd o w f level call node cut → RanOut f node ⊎ SaysNothing node
  ran_or_not {node = node} (isnt_begun s) = inr (says_nothing node _ _ (ap (λ (x : Seen). x.end) s))
  ran_or_not {node = node} (is_deep deep s) = inr (says_nothing node _ _ (ap (λ (x : Seen). x.end) s))
  ran_or_not {node = node} (is_locked n l unqualified place s) = inr (says_nothing node _ _ (ap (λ (x : Seen). x.end) s))
  ran_or_not {node = node} (is_rootless path l search none s) = inr (says_nothing node _ _ (ap (λ (x : Seen). x.end) s))
  ran_or_not {node = node} (is_missing l none s) = inr (says_nothing node _ _ (ap (λ (x : Seen). x.end) s))
  ran_or_not {node = node} (by_host from to answer l none c asked alone says) = inr (hosts_nothing node alone says)
  ran_or_not {node = node} (is_constant own l none u first on s) = inr (says_nothing node _ _ (ap (λ (x : Seen). x.end) s))
  ran_or_not (has_ended pick last l none c came by) = inl (record { pick = pick; last = last; came = came; by = by })
  ran_or_not {node = node} (was_cut pick c l none begun shown e) = inr (says_nothing node _ _ e)

  -- a node shows a text
  text_of_last : {f : Frame} (node : CallNode) (text : Bytes) (r : RanOut f node) → LastPrints w.engine (plan_of (seen node).call) r.pick r.last text → ShowsText o w f (seen node) text
  text_of_last {f} node text r p = record {
    pick = r.pick;
    back = p.back;
    answer = p.answer;
    ended = subst (λ (x : NativeStep). EndsWith o w f (seen node) r.pick x) p.step_is r.came;
    within = p.within;
    set = p.set;
    is_text = p.is_text;
  }

  text_only : {f : Frame} (node : CallNode) (text : Bytes) → RanOut f node ⊎ SaysNothing node → (seen node).end.printed ≡ Some text → ShowsText o w f (seen node) text
  text_only node text (inl r) h = text_of_last node text r (last_prints text r.by h)
  text_only node text (inr n) h = let q : None ≡ Some text = sym n.unprinted ∙ h in absurd cc

  text_back : {f : Frame} (node : CallNode) (text : Bytes) → ShowsText o w f (seen node) text → (seen node).end.printed ≡ Some text
  text_back node text r =
      printed_ends w.engine (plan_of (seen node).call) r.pick r.answer r.back (seen node).end r.within r.ended.ends
      ∙ prints_printed w.engine (plan_of (seen node).call) r.pick r.answer text r.set r.is_text

  text_exactly : {f : Frame} {level : ℕ} {call : CallRequest} {node : CallNode} {before after : Moment H B} {cut : Bool} (text : Bytes) → Runs o w f level call node before after cut
      → ((seen node).end.printed ≡ Some text) ↔ ShowsText o w f (seen node) text
  text_exactly {node = node} text r = (text_only node text (ran_or_not (runs_end o w r)), text_back node text)

  pub tree_text : {node root : CallNode} (inside : InTree node root) {f : Frame} {level : ℕ} {call : CallRequest} {before after : Moment H B} {cut : Bool} (text : Bytes) → Runs o w f level call root before after cut
      → ((seen node).end.printed ≡ Some text) ↔ ShowsText o w (frame_at w f inside) (seen node) text
  tree_text inside text r = text_exactly text (tree_runs o w inside r).3

  -- a call answers a value that its function ended with
  value_of_last : {f : Frame} (node : CallNode) (value : Tree) (r : RanOut f node) → LastAnswers w.engine (plan_of (seen node).call) r.pick r.last value → AnswersValue o w f (seen node) value
  value_of_last {f} node value r p = record {
    pick = r.pick;
    back = p.back;
    answer = p.answer;
    ended = subst (λ (x : NativeStep). EndsWith o w f (seen node) r.pick x) p.step_is r.came;
    within = p.within;
    printable = p.printable;
    makes = p.makes;
    wanted = p.wanted;
  }

  value_only : {f : Frame} (node : CallNode) (value : Tree) → RanOut f node ⊎ SaysNothing node → ((seen node).end.whose ≡ Called) × ((seen node).end.answer ≡ Ok value) → AnswersValue o w f (seen node) value
  value_only node value (inl r) h = value_of_last node value r (last_answers value r.by h.1)
  value_only node value (inr n) h = absurd (n.own h.0)

  value_back : {f : Frame} (node : CallNode) (value : Tree) → AnswersValue o w f (seen node) value → ((seen node).end.whose ≡ Called) × ((seen node).end.answer ≡ Ok value)
  value_back node value r =
      let e = value_ends w.engine (plan_of (seen node).call) r.pick r.answer value r.back (seen node).end r.within r.printable r.makes r.wanted r.ended.ends in
      (ap (λ (x : End). x.whose) e, ap (λ (x : End). x.answer) e)

  pub tree_value : {node root : CallNode} (inside : InTree node root) {f : Frame} {level : ℕ} {call : CallRequest} {before after : Moment H B} {cut : Bool} (value : Tree) → Runs o w f level call root before after cut
      → (((seen node).end.whose ≡ Called) × ((seen node).end.answer ≡ Ok value)) ↔ AnswersValue o w (frame_at w f inside) (seen node) value
  tree_value {node} inside value r = (value_only node value (ran_or_not (runs_end o w (tree_runs o w inside r).3)), value_back node value)

  -- and a call of `print` or `debug` answers unit
  unit_of_last : {f : Frame} (node : CallNode) (pick : Pick) (set : Bool) (value : Tree) (r : RanOut f node) → r.pick ≡ pick → Prints w.engine.printers (plan_of (seen node).call) pick set
      → LastAnswers w.engine (plan_of (seen node).call) r.pick r.last value → value ≡ plain unit
  unit_of_last node pick set value r same prints p = made_unit set (subst (λ (x : Pick). Prints w.engine.printers (plan_of (seen node).call) x set) (sym same) prints) p.makes

  unit_only : {f : Frame} (node : CallNode) (pick : Pick) (set : Bool) (value : Tree) → RanOut f node ⊎ SaysNothing node → (seen node).pick ≡ Some pick
      → Prints w.engine.printers (plan_of (seen node).call) pick set → (seen node).end.answer ≡ Ok value → value ≡ plain unit
  unit_only node pick set value (inl r) is prints h =
      let q : Some r.pick ≡ Some pick = sym r.came.shown ∙ is in
      unit_of_last node pick set value r (some_pick q) prints (last_answers value r.by h)
  unit_only node pick set value (inr n) is prints h = absurd (n.unanswered pick value is h)

  pub tree_unit : {node root : CallNode} (inside : InTree node root) {f : Frame} {level : ℕ} {call : CallRequest} {before after : Moment H B} {cut : Bool} (pick : Pick) (set : Bool) (value : Tree)
      → Runs o w f level call root before after cut
      → (seen node).pick ≡ Some pick → Prints w.engine.printers (plan_of (seen node).call) pick set → (seen node).end.answer ≡ Ok value → value ≡ plain unit
  tree_unit {node} inside pick set value r is prints h = unit_only node pick set value (ran_or_not (runs_end o w (tree_runs o w inside r).3)) is prints h
