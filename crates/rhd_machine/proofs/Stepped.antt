-- The steps that a function takes.
use Rattle.std.proofs.Common.{◌≡◌, IfOk, subst, sym, refl}
use Rattle.std.specs.Prelude.{List, Option, Some, Result, Ok, Err}
use Rattle.std.proofs.lemmas.Result.{IfOk-weaker}
use Rattle.rhd_value.specs.declared.tag.FnId.{FnId}
use Rattle.rhd_func.specs.declared.access.EnvId.{EnvId}
use Rattle.rhd_func.specs.declared.func.ScriptFuncDef.{ScriptFuncDef}
use Rattle.rhd_func.specs.declared.func.RhaiFunc.{RhaiFunc}
use Rattle.rhd_func.specs.declared.func.RhaiFunc.TheVariants.{Script}
use Rattle.rhd_func.specs.declared.request.Carry.{Carry}
use Rattle.rhd_func.specs.declared.request.CallDone.{CallDone}
use Rattle.rhd_func.specs.declared.request.NativeStep.{NativeStep}
use Rattle.rhd_func.specs.declared.request.NativeCallContext.{NativeCallContext}
use Rattle.rhd_func.specs.Funcs.{native_of, has_context, is_pure}
use Rattle.rhd_func.specs.GivenBack.{GivesBack}
use Rattle.rhd_func.specs.Infos.{infos_of}
use Rattle.rhd_func.specs.Natives.{NativeInfo}
use Rattle.rhd_func.specs.declared.natives.Natives.{Natives}
use Rattle.rhd_machine.specs.World.{Objects, Moment}
use Rattle.rhd_func.specs.declared.request.CallShape.{CallShape}
use Rattle.rhd_machine.specs.Received.{Received, received, convention_of, first_received, is_read_only}
use Rattle.rhd_machine.specs.Entered.{context_if}
use Rattle.rhd_machine.specs.Steps.{Starts, native_starts, body_starts, Resumes, native_resumes, body_resumes}

-- equal tables of natives say the same of a function's context
pub context_asked : {X : Type 0} {F : X → Type 0} (info : (x : X) × F x → NativeInfo) (func : RhaiFunc) (natives same : Natives X F) → natives ≡ same → has_context (infos_of info natives) func ≡ has_context (infos_of info same) func
context_asked info func natives same e = λ i. has_context (infos_of info (e i)) func

-- the same of whether it may be called on a constant, and whether it gets one
pub pure_asked : {X : Type 0} {F : X → Type 0} (info : (x : X) × F x → NativeInfo) (func : RhaiFunc) (natives same : Natives X F) → natives ≡ same → is_pure (infos_of info natives) func ≡ is_pure (infos_of info same) func
pure_asked info func natives same e = λ i. is_pure (infos_of info (e i)) func

pub constant_asked : {X : Type 0} {F : X → Type 0} (info : (x : X) × F x → NativeInfo) (func : RhaiFunc) (shape : CallShape) (natives same : Natives X F) → natives ≡ same
    → is_read_only (first_received (received (convention_of (infos_of info natives) func) shape)) ≡ is_read_only (first_received (received (convention_of (infos_of info same) func) shape))
constant_asked info func shape natives same e = λ i. is_read_only (first_received (received (convention_of (infos_of info (e i)) func) shape))

-- what holds of an answer by two clauses
both_ok : {E A : Type 0} (P Q : A → Type 0) (r : Result A E) → IfOk r P → IfOk r Q → IfOk r (λ x. P x × Q x)
both_ok P Q (Ok x) p q = (p, q)
both_ok P Q (Err e) p q = tt

module _ {H B : Type 0} (o : Objects H B) (natives : List NativeInfo) where
  -- a native starts
  pub native_started : {E : Type 0} (r : Result NativeStep E) (func : RhaiFunc) (ctx : NativeCallContext) (received : Received) (id : FnId) (handed : Option NativeCallContext) (s : Moment H B) →
      native_of func ≡ Some id → handed ≡ context_if (has_context natives func) ctx → IfOk r (o.native_starts id handed received.first received.args) → IfOk r (GivesBack received.first) → IfOk r (λ step. Starts o natives ctx func received s step s)
  native_started r func ctx received id handed s i h a b =
      IfOk-weaker r (λ step. o.native_starts id handed received.first received.args step × GivesBack received.first step) (λ step. Starts o natives ctx func received s step s)
      (λ step q. native_starts i (subst (λ (x : Option NativeCallContext). o.native_starts id x received.first received.args step) h q.0) q.1) (both_ok _ _ r a b)

  -- so does the body of a script
  pub body_started : {E : Type 0} (r : Result NativeStep E) (func : RhaiFunc) (def same : ScriptFuncDef) (env : Option EnvId) (ctx : NativeCallContext) (received : Received) (s : Moment H B) (bodies : B) →
      func ≡ Script def env → same ≡ def → IfOk r (λ step. o.body_starts s.bodies same ctx received.first received.args step bodies) → IfOk r (GivesBack received.first) → IfOk r (λ step. Starts o natives ctx func received s step (record s { bodies = bodies }))
  body_started r func def same env ctx received s bodies is equal a b =
      subst (λ (x : RhaiFunc). IfOk r (λ step. Starts o natives ctx x received s step (record s { bodies = bodies }))) (sym is)
      (IfOk-weaker r (λ step. o.body_starts s.bodies def ctx received.first received.args step bodies × GivesBack received.first step) (λ step. Starts o natives ctx (Script def env) received s step (record s { bodies = bodies })) (λ step q. body_starts q.0 q.1)
      (both_ok _ _ r (subst (λ (d : ScriptFuncDef). IfOk r (λ step. o.body_starts s.bodies d ctx received.first received.args step bodies)) equal a) b))

  -- a step on what is received is one on an equal object and equal arguments
  pub starts_on : (func : RhaiFunc) (ctx : NativeCallContext) (received same : Received) (s t : Moment H B) (step : NativeStep) →
      received.first ≡ same.first → received.args ≡ same.args → Starts o natives ctx func received s step t → Starts o natives ctx func same s step t
  starts_on func ctx received same s t step first args a =
      let all : received ≡ same = λ i. record { first = first i; args = args i } in
      subst (λ (x : Received). Starts o natives ctx func x s step t) all a

  -- a native goes on
  pub native_resumed : {E : Type 0} (r : Result NativeStep E) (func : RhaiFunc) (ctx : NativeCallContext) (carry : Carry) (done : CallDone) (id : FnId) (handed : Option NativeCallContext) (s : Moment H B) →
      native_of func ≡ Some id → handed ≡ context_if (has_context natives func) ctx → IfOk r (o.native_resumes id handed carry done) → IfOk r (GivesBack carry.first) → IfOk r (λ step. Resumes o natives ctx func carry done s step s)
  native_resumed r func ctx carry done id handed s i h a b =
      IfOk-weaker r (λ step. o.native_resumes id handed carry done step × GivesBack carry.first step) (λ step. Resumes o natives ctx func carry done s step s)
      (λ step q. native_resumes i (subst (λ (x : Option NativeCallContext). o.native_resumes id x carry done step) h q.0) q.1) (both_ok _ _ r a b)

  -- so does the body of a script
  pub body_resumed : {E : Type 0} (r : Result NativeStep E) (func : RhaiFunc) (def same : ScriptFuncDef) (env : Option EnvId) (ctx : NativeCallContext) (carry : Carry) (done : CallDone) (s : Moment H B) (bodies : B) →
      func ≡ Script def env → same ≡ def → IfOk r (λ step. o.body_resumes s.bodies same ctx carry done step bodies) → IfOk r (GivesBack carry.first) → IfOk r (λ step. Resumes o natives ctx func carry done s step (record s { bodies = bodies }))
  body_resumed r func def same env ctx carry done s bodies is equal a b =
      subst (λ (x : RhaiFunc). IfOk r (λ step. Resumes o natives ctx x carry done s step (record s { bodies = bodies }))) (sym is)
      (IfOk-weaker r (λ step. o.body_resumes s.bodies def ctx carry done step bodies × GivesBack carry.first step) (λ step. Resumes o natives ctx (Script def env) carry done s step (record s { bodies = bodies })) (λ step q. body_resumes q.0 q.1)
      (both_ok _ _ r (subst (λ (d : ScriptFuncDef). IfOk r (λ step. o.body_resumes s.bodies d ctx carry done step bodies)) equal a) b))

  pub resumes_in : {E : Type 0} (r : Result NativeStep E) (func : RhaiFunc) (ctx other : NativeCallContext) (carry : Carry) (done : CallDone) (s t : Moment H B) →
      ctx ≡ other → IfOk r (λ step. Resumes o natives ctx func carry done s step t) → IfOk r (λ step. Resumes o natives other func carry done s step t)
  resumes_in r func ctx other carry done s t c a = subst (λ (x : NativeCallContext). IfOk r (λ step. Resumes o natives x func carry done s step t)) c a

  pub resumed_of : {E : Type 0} (r : Result NativeStep E) (func : RhaiFunc) (ctx : NativeCallContext) (carry same : Carry) (done equal : CallDone) (s t : Moment H B) →
      carry ≡ same → done ≡ equal → IfOk r (λ step. Resumes o natives ctx func carry done s step t) → IfOk r (λ step. Resumes o natives ctx func same equal s step t)
  resumed_of r func ctx carry same done equal s t c d a =
      subst (λ (x : CallDone). IfOk r (λ step. Resumes o natives ctx func same x s step t)) d (subst (λ (x : Carry). IfOk r (λ step. Resumes o natives ctx func x done s step t)) c a)

-- a step leaves the number of calls begun
pub starts_begun : {H B : Type 0} {o : Objects H B} {natives : List NativeInfo} {ctx : NativeCallContext} {func : RhaiFunc} {received : Received} {s t : Moment H B} {step : NativeStep} → Starts o natives ctx func received s step t → t.begun ≡ s.begun
starts_begun (native_starts i a b) = refl
starts_begun (body_starts a b) = refl

pub resumes_begun : {H B : Type 0} {o : Objects H B} {natives : List NativeInfo} {ctx : NativeCallContext} {func : RhaiFunc} {carry : Carry} {done : CallDone} {s t : Moment H B} {step : NativeStep} → Resumes o natives ctx func carry done s step t → t.begun ≡ s.begun
resumes_begun (native_resumes i a b) = refl
resumes_begun (body_resumes a b) = refl

-- what holds of what is handed holds of an equal one
pub handed_as : {E A : Type 0} (r : Result A E) (P : Option NativeCallContext → A → Type 0) (handed other : Option NativeCallContext) → handed ≡ other → IfOk r (P handed) → IfOk r (P other)
handed_as r P handed other is a = subst (λ (x : Option NativeCallContext). IfOk r (P x)) is a
