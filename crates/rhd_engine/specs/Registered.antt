-- How natives and types are registered for all calls.
use Rattle.std.specs.Prelude.{ℕ, List, [], ◌∷◌, length, true, Result}
use Rattle.rhd_value.specs.Tree.{Bytes}
use Rattle.rhd_value.specs.declared.tag.FnId.{FnId}
use Rattle.rhd_value.specs.declared.tag.TypeTag.{TypeTag}
use Rattle.rhd_value.specs.declared.tag.TypeTag.TheVariants.{Custom}
use Rattle.rhd_value.specs.Kinds.{type_name}
use Rattle.rhd_func.specs.Natives.{NativeInfo}
use Rattle.rhd_func.specs.declared.access.FnNamespace.TheVariants.{Global}
use Rattle.rhd_func.specs.declared.func.RhaiFunc.{RhaiFunc}
use Rattle.rhd_func.specs.declared.func.RhaiFunc.TheVariants.{Method}
use Rattle.rhd_decl.specs.declared.fault.DeclFault.{DeclFault}
use Rattle.rhd_decl.specs.declared.registration.FuncRegistration.{FuncRegistration}
use Rattle.rhd_module.specs.Tree.{ModuleTree}
use Rattle.rhd_decl.specs.Registration.{native_at, global_registration, params_by_type, pure_by_name}
use Rattle.rhd_layers.specs.FirstModule.{RegistersBothFirst}

-- a native under a name for all calls: its parameters are told by their types
abbrev pub fn_registration : List NativeInfo → Bytes → FnId → FuncRegistration
fn_registration natives name id = record (global_registration name) { params_info = params_by_type (native_at natives id).types }

-- two natives under two names for all calls, both or none
abbrev pub RegistersPair : {A : Type 0} → List NativeInfo → Bytes → FnId → Bytes → FnId → List ModuleTree → Result A DeclFault → List ModuleTree → Type 0
RegistersPair natives get_name get set_name set old result new = RegistersBothFirst natives (fn_registration natives get_name get) get (fn_registration natives set_name set) set old result new

-- a registration for all calls: where no parameter is told, each is by its type
abbrev pub told_params : List Bytes → List Bytes → List Bytes
told_params by_type [] = by_type
told_params by_type (p ∷ ps) = p ∷ ps

abbrev pub for_all_calls : List NativeInfo → FuncRegistration → FnId → FuncRegistration
for_all_calls natives reg id = record reg { namespace = Global; params_info = told_params (params_by_type (native_at natives id).types) reg.params_info }

-- a native that is registered raw is a volatile method with context
abbrev pub raw_func : Bytes → List TypeTag → FnId → RhaiFunc
raw_func name types id = Method id true (pure_by_name name (length types)) true

-- the name of a custom type by its number, by which it is shown where no other is registered
abbrev pub custom_name : ℕ → Bytes
custom_name kind = type_name (Custom kind)
