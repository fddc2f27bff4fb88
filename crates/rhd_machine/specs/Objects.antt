-- What the natives of a table, bodies and a host may do, by the relations of their traits. A box is a vtable and a value.
use Rattle.std.specs.Prelude.{Bool, List, Option}
use Rattle.rhd_value.specs.Tree.{Bytes, Tree}
use Rattle.rhd_func.specs.declared.func.ScriptFuncDef.{ScriptFuncDef}
use Rattle.rhd_func.specs.declared.natives.Natives.{Natives}
use Rattle.rhd_func.specs.declared.request.Carry.{Carry}
use Rattle.rhd_func.specs.declared.request.CallDone.{CallDone}
use Rattle.rhd_func.specs.declared.request.HostAnswer.{HostAnswer}
use Rattle.rhd_func.specs.declared.request.NativeStep.{NativeStep}
use Rattle.rhd_func.specs.declared.request.NativeCallContext.{NativeCallContext}
use Rattle.rhd_func.specs.Natives.{StartAllowed, ResumeAllowed}
use Rattle.rhd_machine.specs.World.{Objects}

-- a native's relations hold where its number is held
unfoldable pub objects_of : {X : Type 0} {F : X → Type 0} {H B : Type 0} →
    ((x : X) × F x → Option NativeCallContext → Option Tree → List Tree → NativeStep → Type 0) →
    ((x : X) × F x → Option NativeCallContext → Carry → CallDone → NativeStep → Type 0) →
    (B → ScriptFuncDef → NativeCallContext → Option Tree → List Tree → NativeStep → B → Type 0) →
    (B → ScriptFuncDef → NativeCallContext → Carry → CallDone → NativeStep → B → Type 0) →
    (H → Bytes → List Tree → Bool → HostAnswer → H → Type 0) →
    Natives X F → Objects H B
objects_of allows_call allows_resume allows_start allows_next allows_missing natives = record {
  native_starts = StartAllowed (λ b. allows_call (b.vtable, b.value)) natives.items.items;
  native_resumes = ResumeAllowed (λ b. allows_resume (b.vtable, b.value)) natives.items.items;
  body_starts = allows_start;
  body_resumes = allows_next;
  host_answers = allows_missing;
}
