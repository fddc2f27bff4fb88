-- The frame in which a function's requests are asked, and what the function may know of its call.
use Rattle.std.specs.Prelude.{ℕ, Bool, List, [], ◌++◌, ◌∷◌, if◌then◌else◌, Option, None, Some, slice_get}
use Rattle.rhd_value.specs.Tree.{Bytes}
use Rattle.rhd_func.specs.declared.access.EnvId.{EnvId}
use Rattle.rhd_func.specs.declared.func.RhaiFunc.{RhaiFunc}
use Rattle.rhd_func.specs.declared.func.RhaiFunc.TheVariants as funcs
use Rattle.rhd_func.specs.declared.request.NativeCallContext.{NativeCallContext}
use Rattle.rhd_call.specs.declared.pick.Pick.{Pick}
use Rattle.rhd_engine.specs.Engine.{Frame}
use Rattle.rhd_resolve.specs.declared.environs.EncapsulatedEnviron.{EncapsulatedEnviron}
use Rattle.rhd_machine.specs.Plans.{Plan}

-- a frame with the library and the imports of an environment at the ends of its lists, if there is one
abbrev pub with_environ : Option EncapsulatedEnviron → Frame → Frame
with_environ None f = f
with_environ (Some env) f = record f { lib = f.lib ++ env.lib ∷ []; imports = f.imports ++ env.imports }

-- the same of the environment of a number, if there is one
abbrev pub in_environ : List EncapsulatedEnviron → Option EnvId → Frame → Frame
in_environ environs None f = f
in_environ environs (Some id) f = with_environ (slice_get environs id.0) f

-- a script enters its environment, and its source is that of its pick; a native stays in its caller's frame
abbrev pub entered_by : List EncapsulatedEnviron → Frame → Option Bytes → RhaiFunc → Frame
entered_by environs f source (funcs.Script def env) = record (in_environ environs env f) { source = source }
entered_by environs f source (funcs.Pure id context pure volatile) = f
entered_by environs f source (funcs.Method id context pure volatile) = f
entered_by environs f source (funcs.Iterator id) = f
entered_by environs f source (funcs.Plugin id) = f
entered_by environs f source (funcs.StaticPlugin id) = f

-- the frame of the calls that a function asks for which is called at a level
abbrev pub entered : List EncapsulatedEnviron → Frame → ℕ → Pick → Frame
entered environs f level pick = record (entered_by environs f pick.source pick.func) { level = level }

-- the name of the call, the source of the function and that of the frame, the position, the level and the tag
abbrev pub context : Frame → ℕ → Plan → Pick → NativeCallContext
context f level plan pick = record { name = plan.name; source = pick.source; call_source = f.source; pos = plan.pos; level = level; tag = f.tag }

-- a native gets it exactly where its function has a context
abbrev pub context_if : Bool → NativeCallContext → Option NativeCallContext
context_if has ctx = if has then Some ctx else None
