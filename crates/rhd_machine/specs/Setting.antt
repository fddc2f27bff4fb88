-- The setting of a run: what the objects that are handed in may do, the world, and the frame in which a call is asked for. Clauses name it once.
use Rattle.std.specs.Prelude.{ℕ, Bool, List, Option}
use Rattle.rhd_value.specs.Tree.{Bytes, Tree}
use Rattle.rhd_func.specs.declared.func.ScriptFuncDef.{ScriptFuncDef}
use Rattle.rhd_func.specs.declared.request.CallRequest.{CallRequest}
use Rattle.rhd_func.specs.declared.request.Carry.{Carry}
use Rattle.rhd_func.specs.declared.request.CallDone.{CallDone}
use Rattle.rhd_func.specs.declared.request.HostAnswer.{HostAnswer}
use Rattle.rhd_func.specs.declared.request.NativeStep.{NativeStep}
use Rattle.rhd_func.specs.declared.request.NativeCallContext.{NativeCallContext}
use Rattle.rhd_func.specs.Natives.{NativeInfo}
use Rattle.rhd_module.specs.Tree.{ModuleTree}
use Rattle.rhd_call.specs.declared.node.CallNode.{CallNode}
use Rattle.rhd_engine.specs.declared.engine.Engine.{Engine}
use Rattle.rhd_engine.specs.Engine.{Frame}
use Rattle.rhd_engine.specs.Of.{lists_of}
use Rattle.rhd_resolve.specs.declared.environs.EncapsulatedEnviron.{EncapsulatedEnviron}
use Rattle.rhd_machine.specs.Objects.{objects_of}
use Rattle.rhd_machine.specs.Runs.{Runs}
use Rattle.rhd_machine.specs.World.{World, Objects, Moment}

pub record Setting (H B : Type 0) : Type 1 where
  pub objects : Objects H B
  pub world : World
  pub frame : Frame

-- by the relations of the traits and what natives say of themselves: the natives of an engine, its lists with the modules and the environments by number, and a frame
abbrev pub setting_of : {X : Type 0} {F : X → Type 0} {H B : Type 0} →
    ((x : X) × F x → Option NativeCallContext → Option Tree → List Tree → NativeStep → Type 0) →
    ((x : X) × F x → Option NativeCallContext → Carry → CallDone → NativeStep → Type 0) →
    (B → ScriptFuncDef → NativeCallContext → Option Tree → List Tree → NativeStep → B → Type 0) →
    (B → ScriptFuncDef → NativeCallContext → Carry → CallDone → NativeStep → B → Type 0) →
    (H → Bytes → List Tree → Bool → HostAnswer → H → Type 0) →
    ((x : X) × F x → NativeInfo) →
    Engine X F → List ModuleTree → List EncapsulatedEnviron → Frame → Setting H B
setting_of allows_call allows_resume allows_start allows_next allows_missing info engine modules environs f = record {
  objects = objects_of allows_call allows_resume allows_start allows_next allows_missing engine.natives;
  world = record { engine = lists_of info engine; modules = modules; environs = environs };
  frame = f;
}

-- this node answers the call in the setting
abbrev pub RunsIn : {H B : Type 0} → Setting H B → ℕ → CallRequest → CallNode → Moment H B → Moment H B → Bool → Type 0
RunsIn s level call node before after cut = Runs s.objects s.world s.frame level call node before after cut
