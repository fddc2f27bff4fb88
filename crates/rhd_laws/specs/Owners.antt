-- Whose the answer of a call is.
use Rattle.std.specs.Prelude.{◌≡◌, ℕ, Option, Result, Ok, Err, None, Some}
use Rattle.rhd_value.specs.Tree.{Tree}
use Rattle.rhd_value.specs.declared.fault.EvalAltResult.{EvalAltResult}
use Rattle.rhd_func.specs.declared.request.CallRequest.{CallRequest}
use Rattle.rhd_func.specs.declared.request.HostAnswer.{HostAnswer}
use Rattle.rhd_func.specs.declared.request.HostAnswer.TheVariants.{Value, Fault}
use Rattle.rhd_func.specs.declared.request.NativeStep.{NativeStep}
use Rattle.rhd_func.specs.declared.request.NativeStep.TheVariants.{Done, Failed}
use Rattle.rhd_engine.specs.Engine.{EngineLists, Frame}
use Rattle.rhd_machine.specs.World.{World, Objects}
use Rattle.rhd_call.specs.End.{End}
use Rattle.rhd_engine.specs.declared.limits.Printers.{Printers}
use Rattle.rhd_call.specs.declared.pick.Pick.{Pick}
use Rattle.rhd_machine.specs.Plans.{Plan, plan_of}
use Rattle.rhd_laws.specs.Prints.{Makes}
use Rattle.rhd_machine.specs.Decisions.{Decision, ends, asks_host, runs}
use Rattle.rhd_laws.specs.FirstAsks.{IsForHost}
use Rattle.rhd_laws.specs.Hosts.{HostEnds}
use Rattle.rhd_call.specs.Seen.{Seen}
use Rattle.rhd_laws.specs.Causes.{EndsWith}

-- the function that a call shows
abbrev pub shown_pick : Decision → Option Pick
shown_pick (ends pick end) = pick
shown_pick (asks_host plan) = None
shown_pick (runs plan pick) = Some pick

-- what the host gave is the answer: its value, or its fault
pub data IsHosts (gave : HostAnswer) (answer : Result Tree EvalAltResult) : Type 0 where
  hosts_value : (v : Tree) → gave ≡ Value v → answer ≡ Ok v → IsHosts gave answer
  hosts_fault : (fault : EvalAltResult) → gave ≡ Fault fault → answer ≡ Err fault → IsHosts gave answer

-- Nothing refuses the call, it is unqualified and scripts are allowed, no ask is found, and the call ends with the value or fault that the host gave between these states.
pub record IsAnsweredByHost {H B : Type 0} (o : Objects H B) (e : EngineLists) (f : Frame) (level : ℕ) (call : CallRequest) (from to : H) (end : End) : Type 0 where
  pub asked : IsForHost e f level call
  pub gave : HostAnswer
  pub ended : HostEnds o e call from gave to end
  pub shown : IsHosts gave end.answer

-- a function's last step gave the answer: what the call makes of its value, or its fault
pub data IsFunctions (printers : Printers) (plan : Plan) (pick : Pick) (last : NativeStep) (answer : Result Tree EvalAltResult) : Type 0 where
  own_value : (v made : Tree) (back : Option Tree) → last ≡ Done v back → Makes printers plan pick v made → answer ≡ Ok made → IsFunctions printers plan pick last answer
  own_fault : (fault : EvalAltResult) (back : Option Tree) → last ≡ Failed fault back → answer ≡ Err fault → IsFunctions printers plan pick last answer

-- The function that a node shows came through the node's children to its last step, and the call ends with what that gave.
pub record IsAnsweredByFunction {H B : Type 0} (o : Objects H B) (w : World) (f : Frame) (node : Seen) : Type 0 where
  pub pick : Pick
  pub last : NativeStep
  pub ended : EndsWith o w f node pick last
  pub shown : IsFunctions w.engine.printers (plan_of node.call) pick last node.end.answer
