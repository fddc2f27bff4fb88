-- What is handed in to a run.
use Rattle.std.specs.Prelude.{List, Option}
use Rattle.rhd_value.specs.Tree.{Bytes, Tree}
use Rattle.rhd_func.specs.declared.natives.Natives.{Natives}
use Rattle.rhd_func.specs.declared.request.Carry.{Carry}
use Rattle.rhd_func.specs.declared.request.CallDone.{CallDone}
use Rattle.rhd_func.specs.declared.request.NativeStep.{NativeStep}
use Rattle.rhd_func.specs.declared.request.NativeCallContext.{NativeCallContext}
use Rattle.rhd_func.specs.Natives.{NativeInfo}
use Rattle.rhd_func.specs.Infos.{infos_of}
use Rattle.rhd_loader.specs.Loads.{PlanLoads}
use Rattle.rhd_machine.specs.Objects.{objects_of}
use Rattle.rhd_session.specs.State.{SessionObjects}
use Rattle.rhd_plan.specs.declared.body.BodyPlan.{BodyPlan}
use Rattle.rhd_kit.specs.PlanBodies.{plan_starts, plan_resumes}
use Rattle.rhd_kit.specs.TableHost.{table_answers}

-- the bodies of a text, by number
abbrev pub Bodies : Type 0
Bodies = List BodyPlan

-- what the host of a text answers, by name
abbrev pub Hosts : Type 0
Hosts = List (Bytes × Tree)

-- what the natives, the bodies of a text, its host and the loader of module texts may do, and what the natives say of themselves
pub record Handed : Type 1 where
  pub objects : SessionObjects Hosts Bodies
  pub natives : List NativeInfo

-- by the relations of the natives' trait and what they say of themselves: these natives, with the bodies and the host of a text
unfoldable pub handed_of : {X : Type 0} {F : X → Type 0} →
    ((x : X) × F x → Option NativeCallContext → Option Tree → List Tree → NativeStep → Type 0) →
    ((x : X) × F x → Option NativeCallContext → Carry → CallDone → NativeStep → Type 0) →
    ((x : X) × F x → NativeInfo) →
    Natives X F → Handed
handed_of allows_call allows_resume info natives = record {
  objects = record { objects = objects_of allows_call allows_resume plan_starts plan_resumes table_answers natives; loads = PlanLoads };
  natives = infos_of info natives;
}
