-- The properties of a function, by its variant and, of a plugin, by what its native says of itself.
use Rattle.std.specs.Prelude.{Bool, true, false, List, Option, Some, None, ◌++◌, [], if◌then◌else◌, codes}
use Rattle.std.specs.List.{join_by}
use Rattle.rhd_value.specs.Tree.{Bytes}
use Rattle.rhd_value.specs.declared.tag.FnId.{FnId}
use Rattle.rhd_func.specs.Access.{is_private}
use Rattle.rhd_func.specs.Natives.{NativeInfo, says}
use Rattle.rhd_func.specs.declared.access.FnAccess.{FnAccess}
use Rattle.rhd_func.specs.declared.access.FnAccess.TheVariants.{Public}
use Rattle.rhd_func.specs.declared.access.IterId.{IterId}
use Rattle.rhd_func.specs.declared.func.ScriptFuncDef.{ScriptFuncDef}
use Rattle.rhd_func.specs.declared.func.RhaiFunc.{RhaiFunc}
use Rattle.rhd_func.specs.declared.func.RhaiFunc.TheVariants.{Pure, Method, Iterator, Plugin, StaticPlugin, Script}

-- whether it may be called on a constant: one that takes all its arguments by value always may
abbrev pub is_pure : List NativeInfo → RhaiFunc → Bool
is_pure natives (Pure id context pure volatile) = true
is_pure natives (Method id context pure volatile) = pure
is_pure natives (Iterator id) = true
is_pure natives (Plugin id) = says (λ n. n.is_pure) natives id
is_pure natives (StaticPlugin id) = says (λ n. n.is_pure) natives id
is_pure natives (Script def env) = false

-- whether it takes its first argument by reference
abbrev pub is_method : List NativeInfo → RhaiFunc → Bool
is_method natives (Pure id context pure volatile) = false
is_method natives (Method id context pure volatile) = true
is_method natives (Iterator id) = false
is_method natives (Plugin id) = says (λ n. n.is_method) natives id
is_method natives (StaticPlugin id) = says (λ n. n.is_method) natives id
is_method natives (Script def env) = false

-- whether it is a native that is handed the context of the call
abbrev pub has_context : List NativeInfo → RhaiFunc → Bool
has_context natives (Pure id context pure volatile) = context
has_context natives (Method id context pure volatile) = context
has_context natives (Iterator id) = false
has_context natives (Plugin id) = says (λ n. n.has_context) natives id
has_context natives (StaticPlugin id) = says (λ n. n.has_context) natives id
has_context natives (Script def env) = false

-- whether it may answer otherwise the next time
abbrev pub is_volatile : List NativeInfo → RhaiFunc → Bool
is_volatile natives (Pure id context pure volatile) = volatile
is_volatile natives (Method id context pure volatile) = volatile
is_volatile natives (Iterator id) = true
is_volatile natives (Plugin id) = says (λ n. n.is_volatile) natives id
is_volatile natives (StaticPlugin id) = says (λ n. n.is_volatile) natives id
is_volatile natives (Script def env) = true

abbrev pub is_iter : RhaiFunc → Bool
is_iter (Pure id context pure volatile) = false
is_iter (Method id context pure volatile) = false
is_iter (Iterator id) = true
is_iter (Plugin id) = false
is_iter (StaticPlugin id) = false
is_iter (Script def env) = false

abbrev pub is_script : RhaiFunc → Bool
is_script (Pure id context pure volatile) = false
is_script (Method id context pure volatile) = false
is_script (Iterator id) = false
is_script (Plugin id) = false
is_script (StaticPlugin id) = false
is_script (Script def env) = true

abbrev pub is_plugin_fn : RhaiFunc → Bool
is_plugin_fn (Pure id context pure volatile) = false
is_plugin_fn (Method id context pure volatile) = false
is_plugin_fn (Iterator id) = false
is_plugin_fn (Plugin id) = true
is_plugin_fn (StaticPlugin id) = true
is_plugin_fn (Script def env) = false

-- all but scripts
abbrev pub is_native : RhaiFunc → Bool
is_native (Pure id context pure volatile) = true
is_native (Method id context pure volatile) = true
is_native (Iterator id) = true
is_native (Plugin id) = true
is_native (StaticPlugin id) = true
is_native (Script def env) = false

-- a script's definition says it; all others are public
abbrev pub access_of : RhaiFunc → FnAccess
access_of (Pure id context pure volatile) = Public
access_of (Method id context pure volatile) = Public
access_of (Iterator id) = Public
access_of (Plugin id) = Public
access_of (StaticPlugin id) = Public
access_of (Script def env) = def.access

-- the number of the native that runs a function; a script has a body, and an iterator isn't called
abbrev pub native_of : RhaiFunc → Option FnId
native_of (Pure id context pure volatile) = Some id
native_of (Method id context pure volatile) = Some id
native_of (Iterator id) = None
native_of (Plugin id) = Some id
native_of (StaticPlugin id) = Some id
native_of (Script def env) = None

-- the number of a native that isn't a plugin
abbrev pub native_fn_of : RhaiFunc → Option FnId
native_fn_of (Pure id context pure volatile) = Some id
native_fn_of (Method id context pure volatile) = Some id
native_fn_of (Iterator id) = None
native_fn_of (Plugin id) = None
native_fn_of (StaticPlugin id) = None
native_fn_of (Script def env) = None

abbrev pub plugin_fn_of : RhaiFunc → Option FnId
plugin_fn_of (Pure id context pure volatile) = None
plugin_fn_of (Method id context pure volatile) = None
plugin_fn_of (Iterator id) = None
plugin_fn_of (Plugin id) = Some id
plugin_fn_of (StaticPlugin id) = Some id
plugin_fn_of (Script def env) = None

abbrev pub iter_fn_of : RhaiFunc → Option IterId
iter_fn_of (Pure id context pure volatile) = None
iter_fn_of (Method id context pure volatile) = None
iter_fn_of (Iterator id) = Some id
iter_fn_of (Plugin id) = None
iter_fn_of (StaticPlugin id) = None
iter_fn_of (Script def env) = None

abbrev pub script_def_of : RhaiFunc → Option ScriptFuncDef
script_def_of (Pure id context pure volatile) = None
script_def_of (Method id context pure volatile) = None
script_def_of (Iterator id) = None
script_def_of (Plugin id) = None
script_def_of (StaticPlugin id) = None
script_def_of (Script def env) = Some def
