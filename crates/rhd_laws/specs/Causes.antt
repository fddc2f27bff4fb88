-- Why a call ends with a fault of its own, said without a search.
use Rattle.std.specs.Prelude.{◌≡◌, ℕ, ◌+◌, ◌<◌, ◌≤◌, true, false, List, slice_get, Option, None, Some, Err, codes}
use Rattle.rhd_value.specs.Tree.{Bytes, Tree}
use Rattle.rhd_value.specs.Kinds.{tag_of, text_in}
use Rattle.rhd_value.specs.Sums.{sizes_of}
use Rattle.rhd_value.specs.declared.tag.Sizes.{Sizes}
use Rattle.rhd_value.specs.declared.tag.TypeTag.{TypeTag}
use Rattle.rhd_value.specs.declared.tag.TypeTag.TheVariants as tags
use Rattle.rhd_value.specs.declared.fault.EvalAltResult.{EvalAltResult}
use Rattle.rhd_value.specs.declared.fault.EvalAltResult.TheVariants.{ErrorNonPureMethodCallOnConstant, ErrorDataRace, ErrorMismatchOutputType, ErrorDataTooLarge}
use Rattle.rhd_func.specs.declared.request.CallRequest.{CallRequest}
use Rattle.rhd_func.specs.declared.request.CallShape.{CallShape}
use Rattle.rhd_func.specs.declared.request.CallShape.TheVariants.{Plain, ByRef, Method}
use Rattle.rhd_func.specs.declared.request.NativeStep.{NativeStep}
use Rattle.rhd_func.specs.declared.request.NativeStep.TheVariants.{Done}
use Rattle.rhd_func.specs.declared.request.HostAnswer.TheVariants.{Value}
use Rattle.rhd_func.specs.Funcs.{is_script}
use Rattle.rhd_func.specs.GivenBack.{back_of}
use Rattle.rhd_func.specs.Shapes.{pos_of}
use Rattle.rhd_engine.specs.Engine.{EngineLists, Frame}
use Rattle.rhd_machine.specs.World.{World, Objects, Moment}
use Rattle.rhd_call.specs.End.{End}
use Rattle.rhd_engine.specs.declared.limits.Limits.{Limits}
use Rattle.rhd_call.specs.declared.node.Whose.TheVariants.{Call}
use Rattle.rhd_call.specs.declared.pick.Pick.{Pick}
use Rattle.rhd_engine.specs.Display.{display}
use Rattle.rhd_machine.specs.Plans.{is_unqualified, Plan, plan_of}
use Rattle.rhd_machine.specs.Ends.{wanted_name, first_at_end, end_of}
use Rattle.rhd_dispatch.specs.Races.{locked_text}
use Rattle.rhd_machine.specs.Decisions.{refusal}
use Rattle.rhd_laws.specs.FirstAsks.{IsAnsweredFirst, IsOnConstant}
use Rattle.rhd_machine.specs.Entered.{context}
use Rattle.rhd_laws.specs.Hosts.{HostEnds}
use Rattle.rhd_laws.specs.Prints.{Prints, IsPrintable, Makes}
use Rattle.rhd_call.specs.Seen.{Seen}
use Rattle.rhd_machine.specs.Steps.{Starts}
use Rattle.rhd_machine.specs.Runs.{Steps, received_by}

-- a call ends so with a fault of its own
abbrev pub IsOwn : End → EvalAltResult → Type 0
IsOwn end fault = (end.whose ≡ Call) × (end.answer ≡ Err fault)

-- the arguments that are given by value, and the place of the first of them among all, from 1
abbrev pub args_by_value : CallShape → List Tree
args_by_value (Plain args) = args
args_by_value (ByRef first args) = args
args_by_value (Method object args) = args

abbrev pub place_by_value : CallShape → ℕ
place_by_value (Plain args) = 1
place_by_value (ByRef first args) = 2
place_by_value (Method object args) = 2

-- The argument at this place among all, from 1, is given by value, and is locked.
pub record IsLocked (shape : CallShape) (n : ℕ) : Type 0 where
  pub at : ℕ
  pub argument : Tree
  pub place : n ≡ place_by_value shape + at
  pub stands : slice_get (args_by_value shape) at ≡ Some argument
  pub locked : argument.marks.locked ≡ true

-- and none before it is
abbrev pub IsFirstLocked : CallShape → ℕ → Type 0
IsFirstLocked shape n = IsLocked shape n × ((m : ℕ) → m < n → IsLocked shape m → ⊥)

-- the call is unqualified, and the fault names the first of them
abbrev pub NamesLocked : CallRequest → EvalAltResult → Type 0
NamesLocked call fault = (is_unqualified (plan_of call).search ≡ true) × (n : ℕ) × IsFirstLocked (plan_of call).shape n × (fault ≡ ErrorDataRace (locked_text (plan_of call).name n) (pos_of call))

-- Nothing refuses the call, and the function of the first ask that is found isn't for a constant; the fault has the name.
pub record IsForNoConstant (e : EngineLists) (f : Frame) (level : ℕ) (call : CallRequest) (fault : EvalAltResult) : Type 0 where
  pub pick : Pick
  pub unrefused : refusal e f level call ≡ None
  pub first : IsAnsweredFirst e f call pick
  pub on : IsOnConstant e (plan_of call) pick
  pub says : fault ≡ ErrorNonPureMethodCallOnConstant (plan_of call).name (plan_of call).pos

-- no count of a value passes its limit
abbrev pub IsWithin : Limits → Sizes → Type 0
IsWithin limits sizes = (sizes.array ≤ limits.array) × (sizes.map ≤ limits.map) × (sizes.text ≤ limits.text)

-- A count passes its limit, and none before it does: those of arrays, of maps and of texts. The text says which.
pub data Passes (limits : Limits) (sizes : Sizes) : Bytes → Type 0 where
  by_arrays : {what : Bytes} → limits.array < sizes.array → what ≡ codes "Size of array" → Passes limits sizes what
  by_maps : {what : Bytes} → sizes.array ≤ limits.array → limits.map < sizes.map → what ≡ codes "Size of object map" → Passes limits sizes what
  by_texts : {what : Bytes} → sizes.array ≤ limits.array → sizes.map ≤ limits.map → limits.text < sizes.text → what ≡ codes "Length of string" → Passes limits sizes what

-- the call is unqualified, and a native is called with this as its first argument by reference, or object, as that is in the end
abbrev pub HasFirst : EngineLists → Plan → Pick → Option Tree → Tree → Type 0
HasFirst e plan pick back first = (is_unqualified plan.search ≡ true) × (is_script pick.func ≡ false) × (first_at_end e plan pick back ≡ Some first)

-- neither the value nor such an argument passes a limit
abbrev pub AreWithin : EngineLists → Plan → Pick → Option Tree → Tree → Type 0
AreWithin e plan pick back v = IsWithin e.limits (sizes_of v) × ((first : Tree) → HasFirst e plan pick back first → IsWithin e.limits (sizes_of first))

-- the value passes one, or else such an argument
pub data IsTooLarge (e : EngineLists) (plan : Plan) (pick : Pick) (back : Option Tree) (v : Tree) : Bytes → Type 0 where
  the_value : {what : Bytes} → Passes e.limits (sizes_of v) what → IsTooLarge e plan pick back v what
  the_first : {what : Bytes} (first : Tree) → IsWithin e.limits (sizes_of v) → HasFirst e plan pick back first → Passes e.limits (sizes_of first) what → IsTooLarge e plan pick back v what

-- A kind is wanted, and that of any value isn't; the value is of another.
abbrev pub IsOfOtherKind : Option TypeTag → TypeTag → Tree → Type 0
IsOfOtherKind want kind v = (want ≡ Some kind) × (kind ≡ tags.Dynamic → ⊥) × (kind ≡ tag_of v → ⊥)

-- What a function answered is no text for a printer that is set; or else what the call makes of it isn't of the wanted kind. The text says which type was wanted, and the value at the end was refused.
pub data IsMismatch (e : EngineLists) (plan : Plan) (pick : Pick) (answer : Tree) : Bytes → Tree → Type 0 where
  isnt_text : {wanted : Bytes} {value : Tree} → Prints e.printers plan pick true → text_in answer.kind ≡ None → wanted ≡ codes "string" → value ≡ answer → IsMismatch e plan pick answer wanted value
  isnt_wanted : {wanted : Bytes} {value : Tree} (kind : TypeTag) → IsPrintable e.printers plan pick answer → Makes e.printers plan pick answer value → IsOfOtherKind plan.want kind value
      → wanted ≡ wanted_name e kind → IsMismatch e plan pick answer wanted value

-- The function that a node shows came through the node's children to this last step, and the call ends with it.
pub record EndsWith {H B : Type 0} (o : Objects H B) (w : World) (f : Frame) (node : Seen) (pick : Pick) (last : NativeStep) : Type 0 where
  pub before : Moment H B
  pub started : Moment H B
  pub after : Moment H B
  pub first : NativeStep
  pub shown : node.pick ≡ Some pick
  pub starts : Starts o w.engine.natives (context f node.level (plan_of node.call) pick) pick.func (received_by w.engine (plan_of node.call) pick) before first started
  pub steps : Steps o w f node.level (plan_of node.call) pick first node.carries node.children last started after
  pub ends : end_of w.engine (plan_of node.call) pick last ≡ Some node.end

-- The function ended with a value within the limits, which isn't the text that its printer takes, or which makes a value that isn't of the wanted kind; the fault says so, and the node shows the value.
pub record RefusesKind {H B : Type 0} (o : Objects H B) (w : World) (f : Frame) (node : Seen) (fault : EvalAltResult) : Type 0 where
  pub pick : Pick
  pub back : Option Tree
  pub answer : Tree
  pub value : Tree
  pub wanted : Bytes
  pub ended : EndsWith o w f node pick (Done answer back)
  pub within : AreWithin w.engine (plan_of node.call) pick back answer
  pub other : IsMismatch w.engine (plan_of node.call) pick answer wanted value
  pub says : fault ≡ ErrorMismatchOutputType wanted (display w.engine value) (pos_of node.call)
  pub refused : node.end.refused ≡ Some value

-- The function ended with a value, and that passes a limit, or else the first argument that a native had; the fault says so, and the node shows the value.
pub record RefusesSize {H B : Type 0} (o : Objects H B) (w : World) (f : Frame) (node : Seen) (fault : EvalAltResult) : Type 0 where
  pub pick : Pick
  pub back : Option Tree
  pub value : Tree
  pub what : Bytes
  pub ended : EndsWith o w f node pick (Done value back)
  pub large : IsTooLarge w.engine (plan_of node.call) pick back value what
  pub says : fault ≡ ErrorDataTooLarge what (pos_of node.call)
  pub refused : node.end.refused ≡ Some value

-- The host answered a value that isn't of the wanted kind; the fault says so, and the node shows the value.
pub record RefusesHosts {H B : Type 0} (o : Objects H B) (e : EngineLists) (node : Seen) (fault : EvalAltResult) : Type 0 where
  pub from : H
  pub to : H
  pub value : Tree
  pub kind : TypeTag
  pub alone : node.pick ≡ None
  pub ended : HostEnds o e node.call from (Value value) to node.end
  pub other : IsOfOtherKind (plan_of node.call).want kind value
  pub says : fault ≡ ErrorMismatchOutputType (wanted_name e kind) (display e value) (pos_of node.call)
  pub refused : node.end.refused ≡ Some value

-- The node's call refuses this value, for its kind or for a size, or for its kind where it is the host's.
pub data RefusesValue {H B : Type 0} (o : Objects H B) (w : World) (f : Frame) (node : Seen) (value : Tree) : Type 0 where
  for_kind : {fault : EvalAltResult} (r : RefusesKind o w f node fault) → r.value ≡ value → RefusesValue o w f node value
  for_size : {fault : EvalAltResult} (r : RefusesSize o w f node fault) → r.value ≡ value → RefusesValue o w f node value
  for_host : {fault : EvalAltResult} (r : RefusesHosts o w.engine node fault) → r.value ≡ value → RefusesValue o w f node value

-- The node shows what its function gave back of its first argument with its last step.
abbrev pub ShowsGivenBack : {H B : Type 0} → Objects H B → World → Frame → Seen → Pick → Type 0
ShowsGivenBack o w f node pick = (last : NativeStep) × EndsWith o w f node pick last × (node.end.first_after ≡ back_of last)
