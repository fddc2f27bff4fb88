-- How a function is shown.
use Rattle.std.specs.Prelude.{Bool, List, [], ◌++◌, Option, None, Some, codes}
use Rattle.std.specs.List.{join_by}
use Rattle.rhd_value.specs.Tree.{Bytes}
use Rattle.rhd_func.specs.declared.access.FnAccess.{FnAccess}
use Rattle.rhd_func.specs.declared.access.FnAccess.TheVariants.{Private, Public}
use Rattle.rhd_func.specs.declared.func.ScriptFuncDef.{ScriptFuncDef}
use Rattle.rhd_func.specs.declared.func.RhaiFunc.{RhaiFunc}
use Rattle.rhd_func.specs.declared.func.RhaiFunc.TheVariants.{Pure, Method, Iterator, Plugin, StaticPlugin, Script}

-- what stands before a private one
abbrev pub shown_access : FnAccess → Bytes
shown_access Private = codes "private "
shown_access Public = []

-- the type of the object, where there is one, and a dot
abbrev pub shown_object : Option Bytes → Bytes
shown_object None = []
shown_object (Some this_type) = this_type ++ codes "."

-- the parameters with commas between them
abbrev pub shown_params : List Bytes → Bytes
shown_params params = join_by (λ p. p) (codes ", ") params

abbrev pub shown_script : ScriptFuncDef → Bytes
shown_script def = shown_access def.access ++ shown_object def.this_type ++ def.name ++ codes "(" ++ shown_params def.params ++ codes ")"

-- natives are shown by their kinds
abbrev pub shown_func : RhaiFunc → Bytes
shown_func (Pure id context pure volatile) = codes "NativePureFunction"
shown_func (Method id context pure volatile) = codes "NativeMethod"
shown_func (Iterator id) = codes "NativeIterator"
shown_func (Plugin id) = codes "PluginFunction"
shown_func (StaticPlugin id) = codes "PluginFunction"
shown_func (Script def env) = shown_script def
