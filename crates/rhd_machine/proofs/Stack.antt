-- What each step of the machine makes of a call, and of the stack.
use Rattle.std.proofs.Common.{◌≡◌, ℕ, ◌+◌, ◌<◌, ◌≤◌, Bool, true, false, List, [], ◌∷◌, ◌++◌, refl, sym, subst, ap, ◌∙◌, arith, length}
use Rattle.std.specs.Prelude.{Option, Some, Result, IfOk}
use Rattle.std.specs.Global.{Box}
use Rattle.std.proofs.lemmas.Result.{IfOk-weaker}
use Rattle.rhd_value.specs.Tree.{Tree}
use Rattle.rhd_value.specs.declared.fault.EvalAltResult.{EvalAltResult}
use Rattle.std.proofs.lemmas.List.{same_from_push, length_push}
use Rattle.rhd_func.specs.declared.request.CallRequest.{CallRequest}
use Rattle.rhd_func.specs.declared.request.Carry.{Carry}
use Rattle.rhd_func.specs.declared.request.NativeStep.{NativeStep}
use Rattle.rhd_func.specs.declared.request.NativeStep.TheVariants.{Done, Failed, Ask}
use Rattle.rhd_call.specs.declared.pick.Pick.{Pick}
use Rattle.rhd_call.specs.declared.node.CallNode.{CallNode}
use Rattle.rhd_call.specs.End.{End}
use Rattle.rhd_call.specs.Seen.{Seen, seen, unbegun_node, done_of}
use Rattle.rhd_engine.specs.Engine.{EngineLists, Frame}
use Rattle.rhd_engine.specs.Held.{func_held, all_held, named_held, builtins_held}
use Rattle.rhd_machine.specs.Held.{frame_held, environs_held}
use Rattle.rhd_resolve.specs.declared.environs.EncapsulatedEnviron.{EncapsulatedEnviron}
use Rattle.rhd_machine.specs.World.{World, Objects, Moment, one_begun}
use Rattle.rhd_machine.specs.declared.machine.Outer.{Outer}
use Rattle.rhd_machine.specs.declared.machine.StackFrame.{StackFrame}
use Rattle.rhd_machine.specs.declared.machine.Suspended.{Suspended}
use Rattle.rhd_machine.specs.declared.machine.Asking.{Asking}
use Rattle.rhd_machine.specs.declared.machine.Outcome.{Outcome}
use Rattle.rhd_machine.specs.declared.machine.Outcome.TheVariants.{Waiting, Finished}
use Rattle.rhd_machine.specs.declared.machine.Hand.{Hand}
use Rattle.rhd_machine.specs.declared.machine.Hand.TheVariants.{Asked, Answered}
use Rattle.rhd_machine.specs.Plans.{Plan, plan_of}
use Rattle.rhd_machine.specs.Ends.{done, handed_on, end_of}
use Rattle.rhd_machine.specs.Filling.{begun_call, is_begun, with_end, picking, joined, closed}
use Rattle.rhd_machine.specs.Decisions.{runs, decision}
use Rattle.rhd_machine.specs.Entered.{context, entered}
use Rattle.rhd_machine.specs.Steps.{Starts, Resumes}
use Rattle.rhd_machine.specs.Runs.{Runs, Steps, received_by, not_begun, finished, cut_short, one_more}
use Rattle.rhd_machine.specs.Waits.{InProgress, in_progress, under_way, outcome_of, outer_of, given_back, IsAbove, Open, function_waits, Settled, asks, ends_with, Comes_to, it_waits, it_is_answered, Waits, lowest, above, Holds, holds_request, holds_answer, Going, Cutting, IsPut, Put, put_frame, put_node}
use Rattle.rhd_machine.proofs.Environs.{above_itself, above_trans, above_back, enters_above, entered_held}
use Rattle.rhd_machine.proofs.Found.{runs_within, runs_plan, runs_is_held}

-- what each step makes of a call under way
pub settled_done : (e : EngineLists) (k : InProgress) (old new : CallNode) (pick : Pick) (step : NativeStep) (answer : Tree) (back : Option Tree) (end : End) → seen old ≡ under_way k → pick ≡ k.pick → step ≡ Done answer back →
    end ≡ done e (plan_of (seen old).call) pick back answer →
    seen new ≡ picking (with_end (seen old) end) pick → Settled e k step (Finished new)
unfolding end_of
settled_done e k old new pick step answer back end o q is h s =
    ends_with (ap (end_of e (plan_of k.call) k.pick) is ∙ ap Some (sym (h ∙ (λ i. done e (plan_of (o i).call) (q i) back answer))))
    (s ∙ (λ i. picking (with_end (o i) end) (q i)))

pub settled_failed : (e : EngineLists) (k : InProgress) (old new : CallNode) (pick : Pick) (step : NativeStep) (fault : EvalAltResult) (back : Option Tree) (end : End) → seen old ≡ under_way k → pick ≡ k.pick → step ≡ Failed fault back →
    end ≡ handed_on e (plan_of (seen old).call) pick back fault →
    seen new ≡ picking (with_end (seen old) end) pick → Settled e k step (Finished new)
unfolding end_of
settled_failed e k old new pick step fault back end o q is h s =
    ends_with (ap (end_of e (plan_of k.call) k.pick) is ∙ ap Some (sym (h ∙ (λ i. handed_on e (plan_of (o i).call) (q i) back fault))))
    (s ∙ (λ i. picking (with_end (o i) end) (q i)))

pub settled_ask : (e : EngineLists) (k : InProgress) (node : CallNode) (pick : Pick) (step : NativeStep) (request : CallRequest) (carry : Carry) (asking : Box Asking) → seen node ≡ under_way k → pick ≡ k.pick → step ≡ Ask request carry →
    asking.value ≡ record { pick = pick; request = request; carry = carry } → Settled e k step (outcome_of node (Some asking))
settled_ask e k node pick step request carry asking o q is h =
    subst (λ (x : NativeStep). Settled e k x (outcome_of node (Some asking))) (sym (is ∙ ap (λ (a : Asking). Ask a.request carry) (sym h)))
    (asks o (ap (λ (a : Asking). a.pick) h ∙ q) (ap (λ (a : Asking). a.carry) h))

-- a step ends equal plans with equal picks in the same way
ends_same : (e : EngineLists) (plan same : Plan) (pick equal : Pick) (step : NativeStep) → plan ≡ same → pick ≡ equal → end_of e plan pick step ≡ end_of e same equal step
ends_same e plan same pick equal step p q = λ i. end_of e (p i) (q i) step

-- how the stack takes an outcome
pub puts_frame : (environs : List EncapsulatedEnviron) (old new : List StackFrame) (f inner : Frame) (outcome : Outcome) (suspended : Suspended) (asked : CallRequest) → outcome ≡ Waiting suspended asked → IsPut environs old f suspended new inner → Put environs old f outcome (Asked asked) new inner
puts_frame environs old new f inner outcome suspended asked is p = subst (λ (x : Outcome). Put environs old f x (Asked asked) new inner) (sym is) (put_frame p)

pub puts_node : (environs : List EncapsulatedEnviron) (old : List StackFrame) (f : Frame) (outcome : Outcome) (node : CallNode) → outcome ≡ Finished node → Put environs old f outcome (Answered node) old f
puts_node environs old f outcome node is = subst (λ (x : Outcome). Put environs old f x (Answered node) old f) (sym is) (put_node refl refl)

module _ {H B : Type 0} (o : Objects H B) (w : World) where
  -- a step of a call that is under way
  pub settled : {f : Frame} {level : ℕ} {call : CallRequest} {before started after : Moment H B} {plan : Plan} {pick : Pick} {first step : NativeStep} {carries : List Carry} {children : List CallNode} {outcome : Outcome} →
      before.begun < w.engine.limits.budget →
      decision w.engine f level call ≡ runs plan pick →
      Starts o w.engine.natives (context f level plan pick) pick.func (received_by w.engine plan pick) (one_begun before) first started →
      Steps o w f level plan pick first carries children step started after →
      Settled w.engine (in_progress call level pick carries children) step outcome →
      Comes_to o w f level call outcome before after
  settled {f} {level} {call} {before} {started} {after} {plan} {pick} {first} {step} {carries} {children} b d s steps (asks {request = request} {carry = carry} {frame = frame} is pick_is carry_is) =
      it_waits (function_waits {frame = frame} is pick_is b d s (subst (λ (c : Carry). Steps o w f level plan pick first carries children (Ask request c) started after) (sym carry_is) steps))
  settled {f} {level} {call} {plan = plan} {pick = pick} {step = step} b d s steps (ends_with {end = end} e h) =
      it_is_answered (finished b d s steps (ends_same w.engine plan (plan_of call) pick pick step (runs_plan w.engine f level call plan pick d) refl ∙ e) h)

  -- what becomes of a call that was just begun
  pub begins_as : (f : Frame) (level : ℕ) (call : CallRequest) (node : CallNode) (outcome same : Outcome) (before after : Moment H B) → seen node ≡ begun_call call level → outcome ≡ same →
      (is_begun (seen node) → Comes_to o w f (seen node).level (seen node).call outcome before after) → Comes_to o w f level call same before after
  begins_as f level call node outcome same before after is e comes =
      subst (λ (x : Outcome). Comes_to o w f level call x before after) e
      (subst (λ (s : Seen). Comes_to o w f s.level s.call outcome before after) is (comes (is ∙ sym (ap (λ (s : Seen). begun_call s.call s.level) is))))

  -- the next step of a call, after the answer to its request
  pub resumes_with : {E : Type 0} {f inner : Frame} {level : ℕ} {call waited : CallRequest} {before mid answered after : Moment H B} {suspended : Suspended} {child : CallNode} {step : NativeStep} (r : Result Outcome E) →
      Open o w f level call suspended inner waited before mid →
      Runs o w inner (level + 1) waited child mid answered false →
      Resumes o w.engine.natives (context f (seen suspended.node).level (plan_of (seen suspended.node).call) suspended.pick) suspended.pick.func suspended.carry (done_of child) answered step after →
      ((k : InProgress) → joined (seen suspended.node) suspended.carry child ≡ under_way k → suspended.pick ≡ k.pick → IfOk r (λ outcome. Settled w.engine k step outcome)) →
      IfOk r (λ outcome. Comes_to o w f level call outcome before after)
  resumes_with {f = f} {level = level} {call = call} {before = before} {answered = answered} {after = after} {suspended = frame} {child = child} {step = step} r (function_waits {plan = plan} {pick = pick} {carries = carries} {children = children} under pick_is b d s steps) ran next settles =
      let k : InProgress = in_progress call level pick (carries ++ frame.carry ∷ []) (children ++ child ∷ []) in
      let p : plan_of (seen frame.node).call ≡ plan = ap (λ (x : Seen). plan_of x.call) under ∙ sym (runs_plan w.engine f level call plan pick d) in
      let resumed : Resumes o w.engine.natives (context f level plan pick) pick.func frame.carry (done_of child) answered step after =
      subst (λ (x : Plan). Resumes o w.engine.natives (context f level x pick) pick.func frame.carry (done_of child) answered step after) p
      (subst (λ (x : Pick). Resumes o w.engine.natives (context f level (plan_of (seen frame.node).call) x) x.func frame.carry (done_of child) answered step after) pick_is
      (subst (λ (x : Seen). Resumes o w.engine.natives (context f x.level (plan_of (seen frame.node).call) frame.pick) frame.pick.func frame.carry (done_of child) answered step after) under next)) in
      IfOk-weaker r (λ outcome. Settled w.engine k step outcome) (λ outcome. Comes_to o w f level call outcome before after)
      (λ outcome q. settled b d s (one_more steps ran resumed refl refl) q)
      (settles k (ap (λ (x : Seen). joined x frame.carry child) under) pick_is)

  -- the frame that a function has entered
  pub opened_inner : {f inner : Frame} {level : ℕ} {call waited : CallRequest} {before after : Moment H B} {suspended : Suspended} → Open o w f level call suspended inner waited before after → inner ≡ entered w.environs f (seen suspended.node).level suspended.pick
  opened_inner {f = f} (function_waits {level = level} {pick = pick} under pick_is b d s steps) = (λ i. entered w.environs f (sym (ap (λ (x : Seen). x.level) under) i) (sym pick_is i))

  -- what is given back of it is its caller's frame
  pub outer_back : {f inner : Frame} {level : ℕ} {call waited : CallRequest} {before after : Moment H B} {suspended : Suspended} (outer : Outer) → outer ≡ outer_of f → Open o w f level call suspended inner waited before after → given_back outer inner ≡ f
  outer_back {f = f} {suspended = suspended} outer e opened =
      (λ i. given_back (e i) (opened_inner opened i)) ∙ above_back f _ (enters_above w.environs f (seen suspended.node).level suspended.pick)

  -- the stack, seen from its top
  pub record Top (stack : List StackFrame) (frame : StackFrame) (base : Frame) (call : CallRequest) (before : Moment H B) (inner : Frame) (level : ℕ) (asked : CallRequest) (after : Moment H B) : Type 0 where
    pub below : Frame
    pub level_below : ℕ
    pub waited : CallRequest
    pub mid : Moment H B
    pub waits : Waits o w stack base call before below level_below waited mid
    pub opened : Open o w below level_below waited frame.suspended inner asked mid after
    pub outer_is : frame.outer ≡ outer_of below
    pub level_is : level ≡ level_below + 1

  pub top : {all : List StackFrame} {base inner : Frame} {call asked : CallRequest} {before after : Moment H B} {level : ℕ} → Waits o w all base call before inner level asked after →
      (stack : List StackFrame) (frame : StackFrame) → all ≡ stack ++ frame ∷ [] → Top stack frame base call before inner level asked after
  top lowest stack frame e = let l : 0 ≡ length stack + 1 = ap length e ∙ length_push stack frame in absurd (omega (arith, l))
  top (above {base = base} {outer = outer} {inner = inner} {stack = stack'} {call = call} {waited = waited} {asked = asked} {frame = frame'} {before = before} {mid = mid} {after = after} {level = level} waits opened outer_is e') stack frame e =
      let p = same_from_push stack' stack frame' frame (sym e' ∙ e) in
      record {
        below = outer;
        level_below = level;
        waited = waited;
        mid = mid;
        waits = subst (λ (fs : List StackFrame). Waits o w fs base call before outer level waited mid) p.0 waits;
        opened = subst (λ (x : StackFrame). Open o w outer level waited x.suspended inner asked mid after) p.1 opened;
        outer_is = subst (λ (x : StackFrame). x.outer ≡ outer_of outer) p.1 outer_is;
        level_is = refl;
      }

  -- no frame: the call itself is waited for
  pub bottom : {all : List StackFrame} {base f : Frame} {call asked : CallRequest} {before after : Moment H B} {level : ℕ} → Waits o w all base call before f level asked after → all ≡ [] → (asked ≡ call) × (before ≡ after) × (level ≡ 1) × (f ≡ base)
  bottom lowest e = (refl, refl, refl, refl)
  bottom (above {stack = stack'} {frame = frame'} waits opened outer_is e') e = let l : length stack' + 1 ≡ 0 = sym (length_push stack' frame') ∙ ap length (sym e' ∙ e) in absurd (omega (arith, l))

  -- what every frame of a stack names is held, if it is of the first and of the environments
  pub steady : (n : ℕ) {all : List StackFrame} {base f : Frame} {call asked : CallRequest} {before after : Moment H B} {level : ℕ} → environs_held n w.environs ≡ true → frame_held n base ≡ true → Waits o w all base call before f level asked after → frame_held n f ≡ true
  steady n environs held lowest = held
  steady n environs held (above {outer = outer} {frame = frame} waits opened outer_is e) =
      ap (frame_held n) (opened_inner opened) ∙ entered_held n w.environs outer (seen frame.suspended.node).level frame.suspended.pick environs (steady n environs held waits)

  -- every frame of a stack is above the first
  waits_above : {all : List StackFrame} {base f : Frame} {call asked : CallRequest} {before after : Moment H B} {level : ℕ} → Waits o w all base call before f level asked after → IsAbove base f
  waits_above {base = base} lowest = above_itself base
  waits_above (above {base = base} {outer = outer} {inner = inner} {frame = frame} waits opened outer_is e) =
      let entering = enters_above w.environs outer (seen frame.suspended.node).level frame.suspended.pick in
      above_trans base outer inner (waits_above waits) (subst (λ (x : Frame). IsAbove outer x) (sym (opened_inner opened)) entering)

  -- each level is at most one above the limit
  pub level_limited : {all : List StackFrame} {base f : Frame} {call asked : CallRequest} {before after : Moment H B} {level : ℕ} → Waits o w all base call before f level asked after → level ≤ w.engine.limits.level + 1
  level_limited lowest = omega arith
  level_limited (above waits (function_waits {f = f} {level = level} {call = call} {plan = plan} {pick = pick} k q b d s steps) outer_is e) = let h = runs_within w.engine f level call plan pick d in omega (arith, h)

  pub stack_limited : (stack : List StackFrame) (base f : Frame) (call : CallRequest) (before : Moment H B) (hand : Hand) (after : Moment H B) → Going o w stack base call before hand f after → length stack ≤ w.engine.limits.level
  stack_limited stack base f call before hand after g = let h = level_limited g.waits in omega (arith, h)

  asked_parts : {f : Frame} {level : ℕ} {waited : CallRequest} {hand : Hand} {mid after : Moment H B} → Holds o w f level waited hand mid after → (request : CallRequest) → hand ≡ Asked request → (waited ≡ request) × (mid ≡ after)
  asked_parts holds_request request e = (cc, refl)
  asked_parts (holds_answer r) request e = absurd cc

  answer_parts : {f : Frame} {level : ℕ} {waited : CallRequest} {hand : Hand} {mid after : Moment H B} → Holds o w f level waited hand mid after → (node : CallNode) → hand ≡ Answered node → Runs o w f level waited node mid after false
  answer_parts holds_request node e = absurd cc
  answer_parts {f} {level} {waited} {mid = mid} {after = after} (holds_answer {node = n} r) node e = let same : n ≡ node = cc in subst (λ (x : CallNode). Runs o w f level waited x mid after false) same r

  -- an outcome at the top of the stack
  put_goes : (stack news : List StackFrame) (base f g : Frame) (call waited : CallRequest) (before mid after : Moment H B) (outcome : Outcome) (hand : Hand) →
      Waits o w stack base call before f (length stack + 1) waited mid →
      Comes_to o w f (length stack + 1) waited outcome mid after →
      Put w.environs stack f outcome hand news g →
      Going o w news base call before hand g after
  put_goes stack news base f g call waited before mid after outcome hand waits (it_waits {inner = inner} {waited = asked} {frame = suspended} opened) (put_frame p) =
      let frame = p.frame in
      let n : length stack + 1 ≡ length news = sym (length_push stack frame) ∙ ap length (sym p.stack) in
      let same : inner ≡ g = opened_inner opened ∙ sym p.enters in
      let open_at : Open o w f (length stack + 1) waited frame.suspended g asked mid after =
      subst (λ (x : Suspended). Open o w f (length stack + 1) waited x g asked mid after) (sym p.waits) (subst (λ (x : Frame). Open o w f (length stack + 1) waited suspended x asked mid after) same opened) in
      record { waited = asked; mid = after; waits = subst (λ (k : ℕ). Waits o w news base call before g (k + 1) asked after) n (above waits open_at p.outer p.stack); holds = holds_request }
  put_goes stack news base f g call waited before mid after outcome hand waits (it_is_answered {node = node} r) (put_node e same) =
      subst (λ (fs : List StackFrame). Going o w fs base call before (Answered node) g after) (sym e)
      (subst (λ (x : Frame). Going o w stack base call before (Answered node) x after) (sym same)
      (record { waited = waited; mid = mid; waits = waits; holds = holds_answer r }))

  -- a call that was asked for is begun
  pub asked_goes : (stack news : List StackFrame) (base f g : Frame) (call request : CallRequest) (before begun after : Moment H B) (outcome : Outcome) (hand : Hand) →
      Comes_to o w f (length stack + 1) request outcome begun after →
      Put w.environs stack f outcome hand news g →
      Going o w stack base call before (Asked request) f begun →
      Going o w news base call before hand g after
  asked_goes stack news base f g call request before begun after outcome hand step p going =
      let h = asked_parts going.holds request refl in
      put_goes stack news base f g call request before begun after outcome hand
      (subst (λ (x : CallRequest). Waits o w stack base call before f (length stack + 1) x begun) h.0
      (subst (λ (x : Moment H B). Waits o w stack base call before f (length stack + 1) going.waited x) h.1 going.waits))
      step p

  -- the top of a stack, at its level
  record Opened (stack : List StackFrame) (frame : StackFrame) (base : Frame) (call : CallRequest) (before : Moment H B) (inner : Frame) (asked : CallRequest) (after : Moment H B) : Type 0 where
    below : Frame
    waited : CallRequest
    mid : Moment H B
    waits : Waits o w stack base call before below (length stack + 1) waited mid
    opened : Open o w below (length stack + 1) waited frame.suspended inner asked mid after
    back : given_back frame.outer inner ≡ below

  opened_at : (stack : List StackFrame) (frame : StackFrame) (base inner : Frame) (call asked : CallRequest) (before after : Moment H B) → Waits o w (stack ++ frame ∷ []) base call before inner (length (stack ++ frame ∷ []) + 1) asked after → Opened stack frame base call before inner asked after
  opened_at stack frame base inner call asked before after all =
      let t = top all stack frame refl in
      let n : t.level_below ≡ length stack + 1 = let l = t.level_is in omega (arith, l, length_push stack frame) in
      record {
        below = t.below;
        waited = t.waited;
        mid = t.mid;
        waits = subst (λ (k : ℕ). Waits o w stack base call before t.below k t.waited t.mid) n t.waits;
        opened = subst (λ (k : ℕ). Open o w t.below k t.waited frame.suspended inner asked t.mid after) n t.opened;
        back = outer_back frame.outer t.outer_is t.opened;
      }

  -- a node is handed to the call that waits for it, whose function is left
  pub answered_goes : (stack news : List StackFrame) (frame : StackFrame) (node : CallNode) (base inner f g : Frame) (call : CallRequest) (before between after : Moment H B) (outcome : Outcome) (hand : Hand) →
      f ≡ given_back frame.outer inner →
      ((level : ℕ) (own waited : CallRequest) (begun mid : Moment H B) → Open o w f level own frame.suspended inner waited begun mid → Runs o w inner (level + 1) waited node mid between false → Comes_to o w f level own outcome begun after) →
      Put w.environs stack f outcome hand news g →
      Going o w (stack ++ frame ∷ []) base call before (Answered node) inner between →
      Going o w news base call before hand g after
  answered_goes stack news frame node base inner f g call before between after outcome hand left step p going =
      let q = opened_at stack frame base inner call going.waited before going.mid going.waits in
      let same : q.below ≡ f = sym q.back ∙ sym left in
      put_goes stack news base f g call q.waited before q.mid after outcome hand (subst (λ (x : Frame). Waits o w stack base call before x (length stack + 1) q.waited q.mid) same q.waits)
      (step (length stack + 1) q.waited going.waited q.mid going.mid (subst (λ (x : Frame). Open o w x (length stack + 1) q.waited frame.suspended inner going.waited q.mid going.mid) same q.opened)
      (subst (λ (k : ℕ). Runs o w inner (k + 1) going.waited node going.mid between false) (length_push stack frame) (answer_parts going.holds node refl)))
      p

  -- the frame that a function leaves for its caller's is above the first
  pub left_above : (stack : List StackFrame) (frame : StackFrame) (base inner f : Frame) (call : CallRequest) (before after : Moment H B) (hand : Hand) → Going o w (stack ++ frame ∷ []) base call before hand inner after → f ≡ given_back frame.outer inner → IsAbove base f
  left_above stack frame base inner f call before after hand going left =
      let q = opened_at stack frame base inner call going.waited before going.mid going.waits in
      subst (λ (x : Frame). IsAbove base x) (sym q.back ∙ sym left) (waits_above q.waits)

  -- the function of the top is held
  pub top_held : (stack : List StackFrame) (frame : StackFrame) (base f : Frame) (call : CallRequest) (before after : Moment H B) (hand : Hand) (n : ℕ) →
      all_held n w.engine.globals ≡ true → named_held n w.engine.statics ≡ true → environs_held n w.environs ≡ true → frame_held n base ≡ true → builtins_held n w.engine.builtins ≡ true → Going o w (stack ++ frame ∷ []) base call before hand f after → func_held n frame.suspended.pick.func ≡ true
  top_held stack frame base f call before after hand n globals statics environs held bs going =
      let q = opened_at stack frame base f call going.waited before going.mid going.waits in
      open_held q.opened (steady n environs held q.waits)
    where
      open_held : {f inner : Frame} {level : ℕ} {own waited : CallRequest} {begun mid : Moment H B} → Open o w f level own frame.suspended inner waited begun mid → frame_held n f ≡ true → func_held n frame.suspended.pick.func ≡ true
      open_held (function_waits {f = f} {level = level} {call = own} {plan = plan} {pick = pick} k q b d s steps) held' =
          ap (λ (x : Pick). func_held n x.func) q ∙ runs_is_held w.engine f level own plan pick n globals statics held' bs d

  -- what the frame that the state now is names is held
  pub state_held : (stack : List StackFrame) (base f : Frame) (call : CallRequest) (before after : Moment H B) (hand : Hand) (n : ℕ) → environs_held n w.environs ≡ true → frame_held n base ≡ true → Going o w stack base call before hand f after → frame_held n f ≡ true
  state_held stack base f call before after hand n environs held going = steady n environs held going.waits

  -- a call that waits is closed
  cut_opened : {f inner : Frame} {level : ℕ} {own waited : CallRequest} {suspended : Suspended} {child node : CallNode} {begun mid after : Moment H B} →
      seen node ≡ closed (seen suspended.node) suspended.pick suspended.carry child →
      Open o w f level own suspended inner waited begun mid →
      Runs o w inner (level + 1) waited child mid after true →
      Runs o w f level own node begun after true
  cut_opened {suspended = frame} {child = child} h (function_waits k q b d s steps) r =
      cut_short b d s steps r (h ∙ (λ i. closed (k i) (q i) frame.carry child))

  pub cut_goes : (stack : List StackFrame) (frame : StackFrame) (base : Frame) (call : CallRequest) (before after : Moment H B) (child node : CallNode) →
      seen node ≡ closed (seen frame.suspended.node) frame.suspended.pick frame.suspended.carry child →
      Cutting o w (stack ++ frame ∷ []) base call before child after →
      Cutting o w stack base call before node after
  cut_goes stack frame base call before after child node h g =
      let q = opened_at stack frame base g.f call g.waited before g.mid g.waits in
      record {
        f = q.below;
        waited = q.waited;
        mid = q.mid;
        waits = q.waits;
        is_cut = cut_opened h q.opened (subst (λ (k : ℕ). Runs o w g.f (k + 1) g.waited child g.mid after true) (length_push stack frame) g.is_cut);
      }

  ends_at : {cut : Bool} (stack : List StackFrame) (base f : Frame) (call waited : CallRequest) (before mid after : Moment H B) (node : CallNode) → stack ≡ [] →
      Waits o w stack base call before f (length stack + 1) waited mid → Runs o w f (length stack + 1) waited node mid after cut → Runs o w base 1 call node before after cut
  ends_at {cut} stack base f call waited before mid after node e waits r =
      let b = bottom waits e in
      subst (λ (x : Frame). Runs o w x 1 call node before after cut) b.3
      (subst (λ (k : ℕ). Runs o w f k call node before after cut) b.2
      (subst (λ (m : Moment H B). Runs o w f (length stack + 1) call node m after cut) (sym b.1)
      (subst (λ (x : CallRequest). Runs o w f (length stack + 1) x node mid after cut) b.0 r)))

  pub cut_ends : (stack : List StackFrame) (base : Frame) (call : CallRequest) (before after : Moment H B) (node : CallNode) → stack ≡ [] → Cutting o w stack base call before node after → Runs o w base 1 call node before after true
  cut_ends stack base call before after node e g = ends_at stack base g.f call g.waited before g.mid after node e g.waits g.is_cut

  pub answer_ends : (stack : List StackFrame) (base f : Frame) (call : CallRequest) (before after : Moment H B) (node : CallNode) → stack ≡ [] → Going o w stack base call before (Answered node) f after → Runs o w base 1 call node before after false
  answer_ends stack base f call before after node e g = ends_at stack base f call g.waited before g.mid after node e g.waits (answer_parts g.holds node refl)

  -- a call that is asked for isn't begun where the budget is spent
  pub spent : (stack : List StackFrame) (base f : Frame) (call request : CallRequest) (before begun : Moment H B) (node : CallNode) → begun.begun ≡ w.engine.limits.budget →
      seen node ≡ unbegun_node request (length stack + 1) →
      Going o w stack base call before (Asked request) f begun →
      Cutting o w stack base call before node begun
  spent stack base f call request before begun node e h g =
      let p = asked_parts g.holds request refl in
      record {
        f = f;
        waited = request;
        mid = begun;
        waits = subst (λ (x : CallRequest). Waits o w stack base call before f (length stack + 1) x begun) p.0 (subst (λ (m : Moment H B). Waits o w stack base call before f (length stack + 1) g.waited m) p.1 g.waits);
        is_cut = not_begun e h;
      }

  pub begins_with : (base : Frame) (call : CallRequest) (before : Moment H B) → Going o w [] base call before (Asked call) base before
  begins_with base call before = record { waited = call; mid = before; waits = lowest; holds = holds_request }

  -- the first call is answered at once
  answered_at_once : {f : Frame} {level : ℕ} {call : CallRequest} {outcome : Outcome} {before after : Moment H B} → Comes_to o w f level call outcome before after → (node : CallNode) → outcome ≡ Finished node → Runs o w f level call node before after false
  answered_at_once (it_waits opened) node e = absurd cc
  answered_at_once {f} {level} {call} {before = before} {after = after} (it_is_answered {node = n} r) node e = let same : n ≡ node = cc in subst (λ (x : CallNode). Runs o w f level call x before after false) same r

  pub root_ends : (base : Frame) (call : CallRequest) (before after : Moment H B) (outcome : Outcome) (node : CallNode) → Comes_to o w base 1 call outcome before after → outcome ≡ Finished node → Runs o w base 1 call node before after false
  root_ends base call before after outcome node step e = answered_at_once step node e

  -- or goes on
  pub root_goes : (stack news : List StackFrame) (base g : Frame) (call : CallRequest) (before after : Moment H B) (outcome : Outcome) (hand : Hand) → Comes_to o w base 1 call outcome before after → stack ≡ [] → Put w.environs stack base outcome hand news g → Going o w news base call before hand g after
  root_goes stack news base g call before after outcome hand step e p =
      asked_goes [] news base base g call call before before after outcome hand step (subst (λ (fs : List StackFrame). Put w.environs fs base outcome hand news g) e p) (begins_with base call before)

  -- or isn't begun
  pub root_spent : (base : Frame) (call : CallRequest) (begun : Moment H B) (node : CallNode) → begun.begun ≡ w.engine.limits.budget → seen node ≡ unbegun_node call 1 → Runs o w base 1 call node begun begun true
  root_spent base call begun node e h = not_begun e h
