-- How natives and scripts are declared: under which keys, what is said of them, and what refuses them.
use Rattle.std.specs.Prelude.{◌≡◌, ℕ, ◌-◌, Bool, true, false, not, nat_lt, ◌&&◌, ◌||◌, ◌==◌, List, [], ◌∷◌, ◌++◌, length, map, take, slice_get, nat_eq}
use Rattle.std.specs.Prelude.{if◌then◌else◌, Option, None, Some, unwrap_or, Result, Ok, Err, codes}
use Rattle.std.specs.List.{starts_with, list_any}
use Rattle.rhd_value.specs.Tree.{Bytes}
use Rattle.rhd_value.specs.Firsts.{first_some, where_holds}
use Rattle.rhd_value.specs.Same.{text_eq, tag_eq}
use Rattle.rhd_value.specs.Kinds.{type_text}
use Rattle.rhd_value.specs.declared.tag.FnId.{FnId}
use Rattle.rhd_value.specs.declared.tag.TypeTag.{TypeTag}
use Rattle.rhd_value.specs.declared.tag.TypeTag.TheVariants as tags
use Rattle.rhd_hash.specs.declared.key.Key.{Key}
use Rattle.rhd_hash.specs.declared.key.Key.TheVariants as keys
use Rattle.rhd_hash.specs.declared.mixer.Seeds.{Seeds}
use Rattle.rhd_hash.specs.Parts.{mixed}
use Rattle.rhd_func.specs.Natives.{NativeInfo, info_of}
use Rattle.rhd_func.specs.Funcs.{native_of, is_method, is_script, is_iter}
use Rattle.rhd_func.specs.declared.access.EnvId.{EnvId}
use Rattle.rhd_func.specs.declared.access.FnAccess.TheVariants.{Public}
use Rattle.rhd_func.specs.declared.access.FnNamespace.{FnNamespace}
use Rattle.rhd_func.specs.declared.access.FnNamespace.TheVariants.{Internal, Global}
use Rattle.rhd_func.specs.declared.func.ScriptFuncDef.{ScriptFuncDef}
use Rattle.rhd_func.specs.declared.func.RhaiFunc.{RhaiFunc}
use Rattle.rhd_func.specs.declared.func.RhaiFunc.TheVariants as funcs
use Rattle.rhd_decl.specs.NativeKeys.{mapped_types, native_key}
use Rattle.rhd_decl.specs.declared.declaration.Declaration.{Declaration}
use Rattle.rhd_decl.specs.declared.fault.DeclFault.{DeclFault}
use Rattle.rhd_decl.specs.declared.fault.DeclFault.TheVariants.{IndexerNotAllowed, NotCallable, UnknownNumber, OutOfMemory}
use Rattle.rhd_decl.specs.declared.registration.FuncRegistration.{FuncRegistration}

-- whether a native of this name and number of parameters is pure where nothing else is said
abbrev pub pure_by_name : Bytes → ℕ → Bool
pure_by_name name params = not ((starts_with nat_eq name (codes "set$") && (params == 2)) || (text_eq name (codes "index$set$") && (params == 3)))

-- an indexer whose object is of one of these types has its meaning already
abbrev pub is_banned : Bytes → List TypeTag → Bool
is_banned name [] = false
is_banned name (t ∷ ts) =
    ((text_eq name (codes "index$get$") && (length ts == 1)) || (text_eq name (codes "index$set$") && (length ts == 2)))
    && list_any (tag_eq t) (tags.Array ∷ tags.Map ∷ tags.Int ∷ tags.Text ∷ tags.Str ∷ tags.StdString ∷ [])

-- with more texts than parameters, the last is the type of the answer
abbrev pub params_of : ℕ → List Bytes → List Bytes
params_of params info = if nat_lt params (length info) then take (length info - 1) info else info

abbrev pub return_of : ℕ → List Bytes → Bytes
return_of params info = if nat_lt params (length info) then unwrap_or (slice_get info (length info - 1)) [] else []

-- what is said of a native that is registered, with its own types
abbrev pub native_decl : Seeds → FuncRegistration → Bool → List TypeTag → RhaiFunc → Declaration
native_decl seeds reg is_method types func = record {
  func = func;
  metadata = record {
    hash = mixed seeds (native_key is_method reg.name types);
    namespace = reg.namespace;
    access = Public;
    name = reg.name;
    num_params = length types;
    param_types = mapped_types is_method types;
    params_info = params_of (length types) reg.params_info;
    return_type = return_of (length types) reg.params_info;
    comments = reg.comments;
  };
}

-- what the native of a number says of itself; of a number that isn't held, nothing
abbrev pub no_info : NativeInfo
no_info = record { types = []; is_method = false; has_context = false; is_pure = false; is_volatile = false }

abbrev pub native_at : List NativeInfo → FnId → NativeInfo
native_at natives id = unwrap_or (info_of natives id) no_info

-- a native is called as it says of itself; it is pure and volatile as set, else pure by its name and not volatile
abbrev pub registered_func : FuncRegistration → NativeInfo → FnId → RhaiFunc
registered_func reg info id =
    let pure = unwrap_or reg.purity (pure_by_name reg.name (length info.types)) in
    let volatile = unwrap_or reg.volatility false in
    if info.is_method then funcs.Method id info.has_context pure volatile else funcs.Pure id info.has_context pure volatile

abbrev pub registered_decl : Seeds → FuncRegistration → NativeInfo → FnId → Declaration
registered_decl seeds reg info id = native_decl seeds reg info.is_method info.types (registered_func reg info id)

-- a number that isn't held, with how many are
abbrev pub unheld : List NativeInfo → Option FnId → Option DeclFault
unheld natives None = None
unheld natives (Some id) = where_holds (not (nat_lt id.0 (length natives))) (UnknownNumber id.0 (length natives))

abbrev pub banned : Bool → Bytes → List TypeTag → Option DeclFault
banned is_method name types = where_holds (is_banned name types) (IndexerNotAllowed (native_key is_method name types))

-- why a native isn't registered under a name, whatever the module has: the first that holds
abbrev pub registration_cause : List NativeInfo → Bytes → FnId → Option DeclFault
registration_cause natives name id = let info = native_at natives id in first_some (unheld natives (Some id) ∷ banned info.is_method name info.types ∷ [])

-- the same of a function that is registered raw, with these types
abbrev pub raw_cause : List NativeInfo → Bytes → List TypeTag → RhaiFunc → Option DeclFault
raw_cause natives name types func =
    first_some (unheld natives (native_of func) ∷ where_holds (is_iter func || is_script func) NotCallable ∷ banned (is_method natives func) name types ∷ [])

-- why two natives aren't registered as the two halves of a pair: the first that holds
abbrev pub pair_cause : List NativeInfo → Bytes → FnId → Bytes → FnId → Option DeclFault
pair_cause natives get_name get set_name set =
    let getter = native_at natives get in
    let setter = native_at natives set in
    first_some (unheld natives (Some get) ∷ unheld natives (Some set) ∷ banned getter.is_method get_name getter.types ∷ banned setter.is_method set_name setter.types ∷ [])

-- a refusal for a cause that is known beforehand; want of memory has none
abbrev pub Refuses : {A : Type 0} → Option DeclFault → Result A DeclFault → Type 0
Refuses cause (Ok answer) = cause ≡ None
Refuses cause (Err OutOfMemory) = Unit {0}
Refuses cause (Err fault) = cause ≡ Some fault

-- an untyped definition has a script key, a typed one a typed key
abbrev pub key_by_type : ScriptFuncDef → Option Bytes → Key
key_by_type def None = keys.Script None def.name (length def.params)
key_by_type def (Some this_type) = keys.Typed None def.name (length def.params) this_type

abbrev pub script_key : ScriptFuncDef → Key
script_key def = key_by_type def def.this_type

abbrev pub script_namespace : Option Bytes → FnNamespace
script_namespace None = Internal
script_namespace (Some this_type) = Global

-- what is said of a script: an untyped one is internal, a typed one is found by all calls
abbrev pub script_decl : Seeds → ScriptFuncDef → Option EnvId → Declaration
script_decl seeds def env = record {
  func = funcs.Script def env;
  metadata = record {
    hash = mixed seeds (script_key def);
    namespace = script_namespace def.this_type;
    access = def.access;
    name = def.name;
    num_params = length def.params;
    param_types = [];
    params_info = def.params;
    return_type = [];
    comments = [];
  };
}

-- Registrations of their own.
-- nothing is said but the name: found under the module's name alone
abbrev pub new_registration : Bytes → FuncRegistration
new_registration name = record { name = name; namespace = Internal; purity = None; volatility = None; params_info = []; comments = [] }

-- found by all calls
abbrev pub global_registration : Bytes → FuncRegistration
global_registration name = record { name = name; namespace = Global; purity = None; volatility = None; params_info = []; comments = [] }

-- a setter isn't pure
abbrev pub setter_registration : Bytes → FuncRegistration
setter_registration name = record { name = name; namespace = Global; purity = Some false; volatility = None; params_info = []; comments = [] }

-- whatever its name says, it is pure
abbrev pub pure_registration : FuncRegistration → FuncRegistration
pure_registration reg = record reg { purity = Some true }

abbrev pub getter_name : Bytes → Bytes
getter_name prop = codes "get$" ++ prop

abbrev pub setter_name : Bytes → Bytes
setter_name prop = codes "set$" ++ prop

-- `_: T` for each type, as the native gives them
abbrev pub params_by_type : List TypeTag → List Bytes
params_by_type types = map (λ t. codes "_: " ++ type_text t) types
