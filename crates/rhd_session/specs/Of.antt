-- The world, the frame, the moment and the setting of a session.
use Rattle.std.specs.Prelude.{ℕ, Bool, List, Option}
use Rattle.rhd_value.specs.Tree.{Bytes, Tree}
use Rattle.rhd_func.specs.declared.func.ScriptFuncDef.{ScriptFuncDef}
use Rattle.rhd_func.specs.declared.natives.Natives.{Natives}
use Rattle.rhd_func.specs.declared.request.Carry.{Carry}
use Rattle.rhd_func.specs.declared.request.CallDone.{CallDone}
use Rattle.rhd_func.specs.declared.request.HostAnswer.{HostAnswer}
use Rattle.rhd_func.specs.declared.request.NativeStep.{NativeStep}
use Rattle.rhd_func.specs.declared.request.NativeCallContext.{NativeCallContext}
use Rattle.rhd_func.specs.Natives.{NativeInfo}
use Rattle.rhd_module.specs.Tree.{ModuleTree}
use Rattle.rhd_engine.specs.Engine.{Frame}
use Rattle.rhd_engine.specs.Of.{lists_of}
use Rattle.rhd_machine.specs.World.{World, Moment, moment}
use Rattle.rhd_machine.specs.Objects.{objects_of}
use Rattle.rhd_resolve.specs.File.{FileState, AllowsLoad, file_state}
use Rattle.rhd_session.specs.declared.session.Session.{Session}
use Rattle.rhd_session.specs.declared.session_core.SessionCore.{SessionCore}
use Rattle.rhd_session.specs.Answered.{SessionSetting}
use Rattle.rhd_session.specs.State.{SessionState, SessionObjects}

-- the natives that it was made with
abbrev pub natives_of : {X : Type 0} {F : X → Type 0} → SessionCore X F → Natives X F
natives_of session = session.engine.natives

abbrev pub world_of : {X : Type 0} {F : X → Type 0} → ((x : X) × F x → NativeInfo) → SessionCore X F → World
world_of info session = record { engine = lists_of info session.engine; modules = session.modules.items; environs = session.environs.items }

-- the frame in which its commands are done
abbrev pub frame_of : {X : Type 0} {F : X → Type 0} → SessionCore X F → Frame
frame_of session = session.state

-- its modules by number
abbrev pub modules_of : {X : Type 0} {F : X → Type 0} → SessionCore X F → List ModuleTree
modules_of session = session.modules.items

-- how many calls were begun in it
abbrev pub calls_begun_of : {X : Type 0} {F : X → Type 0} → SessionCore X F → ℕ
calls_begun_of session = session.begun

-- the same, with the states of the host and of the bodies
abbrev pub moment_of : {X : Type 0} {F : X → Type 0} {H B : Type 0} → SessionCore X F → H → B → Moment H B
moment_of session host bodies = moment (calls_begun_of session) host bodies

-- its file resolver's settings and files
abbrev pub files_of : {X : Type 0} {D : X → Type 0} {F L : Type 0} → (F → List (Bytes × Bytes)) → (F → ℕ) → Session F L X D → FileState
files_of texts faults session = file_state texts faults session.resolver

-- its loader
abbrev pub loader_of : {X : Type 0} {D : X → Type 0} {F L : Type 0} → Session F L X D → L
loader_of session = session.resolver.loader

-- the state in which its commands are done
abbrev pub state_of : {X : Type 0} {D : X → Type 0} {F L : Type 0} → ((x : X) × D x → NativeInfo) → (F → List (Bytes × Bytes)) → (F → ℕ) → Session F L X D → SessionState
state_of info texts faults session = record { world = world_of info session.core; frame = frame_of session.core; files = files_of texts faults session }

-- what natives, bodies, a host and a loader may do, by the relations of their traits
abbrev pub objects_with : {X : Type 0} {D : X → Type 0} {L H B : Type 0} →
    ((x : X) × D x → Option NativeCallContext → Option Tree → List Tree → NativeStep → Type 0) →
    ((x : X) × D x → Option NativeCallContext → Carry → CallDone → NativeStep → Type 0) →
    (B → ScriptFuncDef → NativeCallContext → Option Tree → List Tree → NativeStep → B → Type 0) →
    (B → ScriptFuncDef → NativeCallContext → Carry → CallDone → NativeStep → B → Type 0) →
    (H → Bytes → List Tree → Bool → HostAnswer → H → Type 0) →
    (L → AllowsLoad) →
    Natives X D → L → SessionObjects H B
objects_with allows_call allows_resume allows_start allows_next allows_missing allows_load natives loader = record {
  objects = objects_of allows_call allows_resume allows_start allows_next allows_missing natives;
  loads = allows_load loader;
}

-- the same of the natives and the loader of a session
abbrev pub session_objects : {X : Type 0} {D : X → Type 0} {F L H B : Type 0} →
    ((x : X) × D x → Option NativeCallContext → Option Tree → List Tree → NativeStep → Type 0) →
    ((x : X) × D x → Option NativeCallContext → Carry → CallDone → NativeStep → Type 0) →
    (B → ScriptFuncDef → NativeCallContext → Option Tree → List Tree → NativeStep → B → Type 0) →
    (B → ScriptFuncDef → NativeCallContext → Carry → CallDone → NativeStep → B → Type 0) →
    (H → Bytes → List Tree → Bool → HostAnswer → H → Type 0) →
    (L → AllowsLoad) →
    Session F L X D → SessionObjects H B
session_objects allows_call allows_resume allows_start allows_next allows_missing allows_load session = objects_with allows_call allows_resume allows_start allows_next allows_missing allows_load (natives_of session.core) (loader_of session)

-- the setting in which its commands are done
abbrev pub session_setting : {X : Type 0} {D : X → Type 0} {F L H B : Type 0} →
    ((x : X) × D x → Option NativeCallContext → Option Tree → List Tree → NativeStep → Type 0) →
    ((x : X) × D x → Option NativeCallContext → Carry → CallDone → NativeStep → Type 0) →
    (B → ScriptFuncDef → NativeCallContext → Option Tree → List Tree → NativeStep → B → Type 0) →
    (B → ScriptFuncDef → NativeCallContext → Carry → CallDone → NativeStep → B → Type 0) →
    (H → Bytes → List Tree → Bool → HostAnswer → H → Type 0) →
    (L → AllowsLoad) →
    ((x : X) × D x → NativeInfo) → (F → List (Bytes × Bytes)) → (F → ℕ) →
    Session F L X D → SessionSetting H B
session_setting allows_call allows_resume allows_start allows_next allows_missing allows_load info texts faults session = record {
  objects = session_objects allows_call allows_resume allows_start allows_next allows_missing allows_load session;
  state = state_of info texts faults session;
}
