-- THE MACHINE'S OWN WORDS, not to be believed: calls that wait for the answer to a request, and the stack of them.
use Rattle.std.specs.Prelude.{◌≡◌, ℕ, ◌+◌, ◌<◌, true, false, List, [], ◌∷◌, ◌++◌, length, take, Option, None, Some}
use Rattle.std.specs.Global.{Box}
use Rattle.rhd_func.specs.declared.request.CallRequest.{CallRequest}
use Rattle.rhd_func.specs.declared.request.Carry.{Carry}
use Rattle.rhd_func.specs.declared.request.NativeStep.{NativeStep}
use Rattle.rhd_func.specs.declared.request.NativeStep.TheVariants.{Ask}
use Rattle.rhd_engine.specs.Engine.{EngineLists, Frame}
use Rattle.rhd_resolve.specs.declared.environs.EncapsulatedEnviron.{EncapsulatedEnviron}
use Rattle.rhd_machine.specs.World.{World, Objects, Moment, one_begun}
use Rattle.rhd_call.specs.declared.pick.Pick.{Pick}
use Rattle.rhd_call.specs.declared.node.CallNode.{CallNode}
use Rattle.rhd_machine.specs.declared.machine.Outer.{Outer}
use Rattle.rhd_machine.specs.declared.machine.StackFrame.{StackFrame}
use Rattle.rhd_machine.specs.declared.machine.Suspended.{Suspended}
use Rattle.rhd_machine.specs.declared.machine.Asking.{Asking}
use Rattle.rhd_machine.specs.declared.machine.Outcome.{Outcome}
use Rattle.rhd_machine.specs.declared.machine.Outcome.TheVariants.{Waiting, Finished}
use Rattle.rhd_machine.specs.declared.machine.Hand.{Hand}
use Rattle.rhd_machine.specs.declared.machine.Hand.TheVariants.{Asked, Answered}
use Rattle.rhd_machine.specs.Plans.{Plan, plan_of}
use Rattle.rhd_call.specs.End.{End}
use Rattle.rhd_machine.specs.Ends.{end_of}
use Rattle.rhd_machine.specs.Setting.{Setting}
use Rattle.rhd_call.specs.Seen.{Seen, seen, begun_node, cut_end}
use Rattle.rhd_machine.specs.Decisions.{runs, decision}
use Rattle.rhd_machine.specs.Entered.{context, entered}
use Rattle.rhd_machine.specs.Steps.{Starts}
use Rattle.rhd_machine.specs.Runs.{Runs, Steps, received_by}

-- what the machine knows of a call in progress
pub record InProgress : Type 0 where
  pub call : CallRequest
  pub level : ℕ
  pub pick : Pick
  pub carries : List Carry
  pub children : List CallNode

abbrev pub in_progress : CallRequest → ℕ → Pick → List Carry → List CallNode → InProgress
in_progress call level pick carries children = record { call = call; level = level; pick = pick; carries = carries; children = children }

-- its node: what it shows where the budget is spent within the call, and no pick
abbrev pub under_way : InProgress → Seen
under_way k = begun_node k.call k.level None k.carries k.children (cut_end k.call)

-- what a step made of a call: it waits where its function asks for another, else it is finished
abbrev pub outcome_of : CallNode → Option (Box Asking) → Outcome
outcome_of node None = Finished node
outcome_of node (Some asking) = Waiting (record { node = node; pick = asking.value.pick; carry = asking.value.carry }) asking.value.request

-- The call at this level, begun after `before`, waits for the answer to a request, which is asked in the second frame.
pub data Open {H B : Type 0} (o : Objects H B) (w : World) : Frame → ℕ → CallRequest → Suspended → Frame → CallRequest → Moment H B → Moment H B → Type 0 where
  function_waits : {f : Frame} {level : ℕ} {call waited : CallRequest} {frame : Suspended} {before started mid : Moment H B} {plan : Plan} {pick : Pick} {first : NativeStep} {carries : List Carry} {children : List CallNode} →
      seen frame.node ≡ under_way (in_progress call level pick carries children) →
      frame.pick ≡ pick →
      before.begun < w.engine.limits.budget →
      decision w.engine f level call ≡ runs plan pick →
      Starts o w.engine.natives (context f level plan pick) pick.func (received_by w.engine plan pick) (one_begun before) first started →
      Steps o w f level plan pick first carries children (Ask waited frame.carry) started mid →
      Open o w f level call frame (entered w.environs f level pick) waited before mid

-- what a step of its function makes of a call under way
pub data Settled (e : EngineLists) (k : InProgress) : NativeStep → Outcome → Type 0 where
  asks : {request : CallRequest} {carry : Carry} {frame : Suspended} →
      seen frame.node ≡ under_way k → frame.pick ≡ k.pick → frame.carry ≡ carry →
      Settled e k (Ask request carry) (Waiting frame request)
  ends_with : {step : NativeStep} {end : End} {node : CallNode} →
      end_of e (plan_of k.call) k.pick step ≡ Some end →
      seen node ≡ begun_node k.call k.level (Some k.pick) k.carries k.children end →
      Settled e k step (Finished node)

-- what a step of the machine makes of a call
pub data Comes_to {H B : Type 0} (o : Objects H B) (w : World) : Frame → ℕ → CallRequest → Outcome → Moment H B → Moment H B → Type 0 where
  it_waits : {f inner : Frame} {level : ℕ} {call waited : CallRequest} {frame : Suspended} {before after : Moment H B} →
      Open o w f level call frame inner waited before after →
      Comes_to o w f level call (Waiting frame waited) before after
  it_is_answered : {f : Frame} {level : ℕ} {call : CallRequest} {node : CallNode} {before after : Moment H B} →
      Runs o w f level call node before after false →
      Comes_to o w f level call (Finished node) before after

-- what the machine makes of a call in a setting
abbrev pub ComesIn : {H B : Type 0} → Setting H B → ℕ → CallRequest → Outcome → Moment H B → Moment H B → Type 0
ComesIn s level call outcome before after = Comes_to s.objects s.world s.frame level call outcome before after

-- what entering a function changes of its caller's frame, as it was
abbrev pub outer_of : Frame → Outer
outer_of f = record { level = f.level; libs = length f.lib; imports = length f.imports; source = f.source }

-- the frame with it given back
abbrev pub given_back : Outer → Frame → Frame
given_back outer f = record f { lib = take outer.libs f.lib; imports = take outer.imports f.imports; source = outer.source; level = outer.level }

-- the lists of a frame begin with those of the base, and it has the base's tag
pub record IsAbove (base f : Frame) : Type 0 where
  pub lib : take (length base.lib) f.lib ≡ base.lib
  pub imports : take (length base.imports) f.imports ≡ base.imports
  pub tag : f.tag ≡ base.tag

-- the suspended calls, from the lowest to the top: each waits for the request that the next one answers, and keeps what its function changed of its caller's frame
pub data Waits {H B : Type 0} (o : Objects H B) (w : World) : List StackFrame → Frame → CallRequest → Moment H B → Frame → ℕ → CallRequest → Moment H B → Type 0 where
  lowest : {f : Frame} {call : CallRequest} {before : Moment H B} → Waits o w [] f call before f 1 call before
  above : {base outer inner : Frame} {stack more : List StackFrame} {call waited asked : CallRequest} {frame : StackFrame} {before mid after : Moment H B} {level : ℕ} →
      Waits o w stack base call before outer level waited mid →
      Open o w outer level waited frame.suspended inner asked mid after →
      frame.outer ≡ outer_of outer →
      more ≡ stack ++ frame ∷ [] →
      Waits o w more base call before inner (level + 1) asked after

-- what is in hand is the request that is waited for, or answers it
pub data Holds {H B : Type 0} (o : Objects H B) (w : World) (f : Frame) (level : ℕ) (waited : CallRequest) : Hand → Moment H B → Moment H B → Type 0 where
  holds_request : {s : Moment H B} → Holds o w f level waited (Asked waited) s s
  holds_answer : {node : CallNode} {mid after : Moment H B} → Runs o w f level waited node mid after false → Holds o w f level waited (Answered node) mid after

-- the machine in the midst of a call: the frame that the state now is, and the request that is waited for there
pub record Going {H B : Type 0} (o : Objects H B) (w : World) (stack : List StackFrame) (base : Frame) (call : CallRequest) (before : Moment H B) (hand : Hand) (f : Frame) (after : Moment H B) : Type 0 where
  pub waited : CallRequest
  pub mid : Moment H B
  pub waits : Waits o w stack base call before f (length stack + 1) waited mid
  pub holds : Holds o w f (length stack + 1) waited hand mid after

-- the same in the setting of the call at the bottom
abbrev pub GoingIn : {H B : Type 0} → Setting H B → List StackFrame → CallRequest → Moment H B → Hand → Frame → Moment H B → Type 0
GoingIn s stack call before hand f after = Going s.objects s.world stack s.frame call before hand f after

-- the machine once the budget is spent: the node in hand is cut
pub record Cutting {H B : Type 0} (o : Objects H B) (w : World) (stack : List StackFrame) (base : Frame) (call : CallRequest) (before : Moment H B) (node : CallNode) (after : Moment H B) : Type 0 where
  pub f : Frame
  pub waited : CallRequest
  pub mid : Moment H B
  pub waits : Waits o w stack base call before f (length stack + 1) waited mid
  pub is_cut : Runs o w f (length stack + 1) waited node mid after true

abbrev pub CuttingIn : {H B : Type 0} → Setting H B → List StackFrame → CallRequest → Moment H B → CallNode → Moment H B → Type 0
CuttingIn s stack call before node after = Cutting s.objects s.world stack s.frame call before node after

-- how the stack takes a call that waits, and the frame that the state then is
pub record IsPut (environs : List EncapsulatedEnviron) (old : List StackFrame) (f : Frame) (suspended : Suspended) (new : List StackFrame) (inner : Frame) : Type 0 where
  pub frame : StackFrame
  pub waits : frame.suspended ≡ suspended
  pub outer : frame.outer ≡ outer_of f
  pub stack : new ≡ old ++ frame ∷ []
  pub enters : inner ≡ entered environs f (seen suspended.node).level suspended.pick

-- how the stack takes an outcome, what the machine then has in hand, and the frame that the state then is
pub data Put (environs : List EncapsulatedEnviron) (old : List StackFrame) (f : Frame) : Outcome → Hand → List StackFrame → Frame → Type 0 where
  put_frame : {suspended : Suspended} {asked : CallRequest} {new : List StackFrame} {inner : Frame} →
      IsPut environs old f suspended new inner →
      Put environs old f (Waiting suspended asked) (Asked asked) new inner
  put_node : {node : CallNode} {new : List StackFrame} {inner : Frame} →
      new ≡ old →
      inner ≡ f →
      Put environs old f (Finished node) (Answered node) new inner

-- an answer in hand counts for one
abbrev pub weight : Hand → ℕ
weight (Asked request) = 0
weight (Answered node) = 1
