-- The steps that a picked function may take. Each gives a first argument back exactly where one was given.
use Rattle.std.specs.Prelude.{◌≡◌, List, Option, Some}
use Rattle.rhd_value.specs.declared.tag.FnId.{FnId}
use Rattle.rhd_func.specs.declared.access.EnvId.{EnvId}
use Rattle.rhd_func.specs.declared.func.ScriptFuncDef.{ScriptFuncDef}
use Rattle.rhd_func.specs.declared.func.RhaiFunc.{RhaiFunc}
use Rattle.rhd_func.specs.declared.func.RhaiFunc.TheVariants as funcs
use Rattle.rhd_func.specs.declared.request.NativeCallContext.{NativeCallContext}
use Rattle.rhd_func.specs.declared.request.NativeStep.{NativeStep}
use Rattle.rhd_func.specs.declared.request.Carry.{Carry}
use Rattle.rhd_func.specs.declared.request.CallDone.{CallDone}
use Rattle.rhd_func.specs.Funcs.{native_of, has_context}
use Rattle.rhd_func.specs.GivenBack.{GivesBack}
use Rattle.rhd_func.specs.Natives.{NativeInfo}
use Rattle.rhd_machine.specs.World.{Objects, Moment}
use Rattle.rhd_machine.specs.Received.{Received}
use Rattle.rhd_machine.specs.Entered.{context_if}

-- A function takes this first step on what it received: a native leaves the state of the bodies, a body has its own part in it.
pub data Starts {H B : Type 0} (o : Objects H B) (natives : List NativeInfo) (ctx : NativeCallContext) : RhaiFunc → Received → Moment H B → NativeStep → Moment H B → Type 0 where
  native_starts : {func : RhaiFunc} {id : FnId} {r : Received} {s : Moment H B} {step : NativeStep} →
      native_of func ≡ Some id →
      o.native_starts id (context_if (has_context natives func) ctx) r.first r.args step →
      GivesBack r.first step →
      Starts o natives ctx func r s step s
  body_starts : {def : ScriptFuncDef} {env : Option EnvId} {r : Received} {s : Moment H B} {step : NativeStep} {bodies : B} →
      o.body_starts s.bodies def ctx r.first r.args step bodies →
      GivesBack r.first step →
      Starts o natives ctx (funcs.Script def env) r s step (record s { bodies = bodies })

-- the same after the answer to the call that it asked for
pub data Resumes {H B : Type 0} (o : Objects H B) (natives : List NativeInfo) (ctx : NativeCallContext) : RhaiFunc → Carry → CallDone → Moment H B → NativeStep → Moment H B → Type 0 where
  native_resumes : {func : RhaiFunc} {id : FnId} {carry : Carry} {done : CallDone} {s : Moment H B} {step : NativeStep} →
      native_of func ≡ Some id →
      o.native_resumes id (context_if (has_context natives func) ctx) carry done step →
      GivesBack carry.first step →
      Resumes o natives ctx func carry done s step s
  body_resumes : {def : ScriptFuncDef} {env : Option EnvId} {carry : Carry} {done : CallDone} {s : Moment H B} {step : NativeStep} {bodies : B} →
      o.body_resumes s.bodies def ctx carry done step bodies →
      GivesBack carry.first step →
      Resumes o natives ctx (funcs.Script def env) carry done s step (record s { bodies = bodies })
