-- Whose a fault is.
use Rattle.std.specs.Prelude.{◌≡◌, ◌≤◌, ◌⊎◌, ℕ, Option, Err}
use Rattle.rhd_value.specs.Tree.{Tree}
use Rattle.rhd_value.specs.declared.fault.EvalAltResult.{EvalAltResult}
use Rattle.rhd_func.specs.declared.request.CallRequest.{CallRequest}
use Rattle.rhd_func.specs.declared.request.HostAnswer.TheVariants.{Fault}
use Rattle.rhd_func.specs.declared.request.NativeStep.TheVariants.{Failed}
use Rattle.rhd_call.specs.End.{End}
use Rattle.rhd_call.specs.Seen.{Seen}
use Rattle.rhd_call.specs.declared.node.Whose.{Whose}
use Rattle.rhd_call.specs.declared.pick.Pick.{Pick}
use Rattle.rhd_engine.specs.Engine.{EngineLists, Frame}
use Rattle.rhd_machine.specs.World.{World, Objects}
use Rattle.rhd_laws.specs.Causes.{EndsWith}
use Rattle.rhd_laws.specs.FirstAsks.{IsForHost}
use Rattle.rhd_laws.specs.Hosts.{HostEnds}

-- the numbers of the faults of a call itself: 1 to 7 and 9 to 12
pub data IsOwnNumber (n : ℕ) : Type 0 where
  one_to_seven : 1 ≤ n → n ≤ 7 → IsOwnNumber n
  nine_to_twelve : 9 ≤ n → n ≤ 12 → IsOwnNumber n

-- Those that refuse a value: for its kind, and for a size.
abbrev pub IsRefusing : ℕ → Type 0
IsRefusing n = (n ≡ 7) ⊎ (n ≡ 11)

-- a call ends with this fault, and it is of this owner
abbrev pub FaultOf : Whose → End → EvalAltResult → Type 0
FaultOf whose end fault = (end.whose ≡ whose) × (end.answer ≡ Err fault)

-- the function that a node shows came through the node's children to a last step that failed with this fault
pub record FunctionFails {H B : Type 0} (o : Objects H B) (w : World) (f : Frame) (node : Seen) (fault : EvalAltResult) : Type 0 where
  pub pick : Pick
  pub back : Option Tree
  pub ended : EndsWith o w f node pick (Failed fault back)

-- the call is one for the host, and that gave this fault between these states
pub record HostFails {H B : Type 0} (o : Objects H B) (e : EngineLists) (f : Frame) (level : ℕ) (call : CallRequest) (from to : H) (end : End) (fault : EvalAltResult) : Type 0 where
  pub asked : IsForHost e f level call
  pub ended : HostEnds o e call from (Fault fault) to end
