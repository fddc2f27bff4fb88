-- An engine, modules and environments as plain data, and what the natives, the bodies and the host that are handed in may do.
use Rattle.std.specs.Prelude.{ℕ, ◌+◌, Bool, List, Option}
use Rattle.rhd_value.specs.Tree.{Bytes, Tree}
use Rattle.rhd_value.specs.declared.tag.FnId.{FnId}
use Rattle.rhd_func.specs.declared.func.ScriptFuncDef.{ScriptFuncDef}
use Rattle.rhd_func.specs.declared.request.Carry.{Carry}
use Rattle.rhd_func.specs.declared.request.CallDone.{CallDone}
use Rattle.rhd_func.specs.declared.request.HostAnswer.{HostAnswer}
use Rattle.rhd_func.specs.declared.request.NativeStep.{NativeStep}
use Rattle.rhd_func.specs.declared.request.NativeCallContext.{NativeCallContext}
use Rattle.rhd_module.specs.Tree.{ModuleTree}
use Rattle.rhd_engine.specs.Engine.{EngineLists}
use Rattle.rhd_resolve.specs.declared.environs.EncapsulatedEnviron.{EncapsulatedEnviron}

pub record World : Type 0 where
  pub engine : EngineLists
  pub modules : List ModuleTree  -- by number
  pub environs : List EncapsulatedEnviron  -- by number

-- Which steps and answers are allowed. H and B are the states of the host and of the bodies; each is given before and after.
pub record Objects (H B : Type 0) : Type 1 where
  -- of a native by its number, with its context: the first step, with its first argument by reference and the others
  pub native_starts : FnId → Option NativeCallContext → Option Tree → List Tree → NativeStep → Type 0
  -- the next step, after the answer to the call that it asked for
  pub native_resumes : FnId → Option NativeCallContext → Carry → CallDone → NativeStep → Type 0
  -- the same of the body of a script, with its object
  pub body_starts : B → ScriptFuncDef → NativeCallContext → Option Tree → List Tree → NativeStep → B → Type 0
  pub body_resumes : B → ScriptFuncDef → NativeCallContext → Carry → CallDone → NativeStep → B → Type 0
  -- of the host, asked for a name with all arguments, of a method or not
  pub host_answers : H → Bytes → List Tree → Bool → HostAnswer → H → Type 0

-- how many calls were begun, and the states
pub record Moment (H B : Type 0) : Type 0 where
  pub begun : ℕ
  pub host : H
  pub bodies : B

abbrev pub moment : {H B : Type 0} → ℕ → H → B → Moment H B
moment begun host bodies = record { begun = begun; host = host; bodies = bodies }

-- one call more
abbrev pub one_begun : {H B : Type 0} → Moment H B → Moment H B
one_begun s = record s { begun = s.begun + 1 }
