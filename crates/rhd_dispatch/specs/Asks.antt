-- The questions that a call by name asks in order, and the pick: the first that is answered.
use Rattle.std.specs.Prelude.{◌≡◌, ℕ, ◌+◌, Bool, not, if◌then◌else◌, List, [], ◌∷◌, ◌++◌, length, map, Option, None, Some, option_map}
use Rattle.std.specs.Map.{lookup}
use Rattle.std.specs.Option.{option_or}
use Rattle.rhd_value.specs.Tree.{Bytes}
use Rattle.rhd_value.specs.Kinds.{tag_of}
use Rattle.rhd_value.specs.Firsts.{first_of}
use Rattle.rhd_value.specs.declared.tag.FnId.{FnId}
use Rattle.rhd_value.specs.declared.tag.TypeTag.{TypeTag}
use Rattle.rhd_names.specs.declared.token.OpToken.{OpToken}
use Rattle.rhd_names.specs.Tokens.{is_assignment}
use Rattle.rhd_func.specs.Natives.{says}
use Rattle.rhd_func.specs.declared.func.RhaiFunc.TheVariants as funcs
use Rattle.rhd_func.specs.declared.request.CallShape.{CallShape}
use Rattle.rhd_func.specs.declared.request.CallShape.TheVariants.{Plain, ByRef, Method}
use Rattle.rhd_func.specs.Shapes.{all_args}
use Rattle.rhd_hash.specs.declared.key.Key.{Key}
use Rattle.rhd_hash.specs.declared.key.Key.TheVariants.{Script, Typed, Native}
use Rattle.rhd_module.specs.Tree.{ModuleTree}
use Rattle.rhd_call.specs.declared.pick.Layer.TheVariants.{Builtin}
use Rattle.rhd_call.specs.declared.pick.Pick.{Pick}
use Rattle.rhd_engine.specs.Display.{display}
use Rattle.rhd_engine.specs.Engine.{EngineLists, Imports}
use Rattle.rhd_engine.specs.Operators.{operator_eq}
use Rattle.rhd_dispatch.specs.Patterns.{patterns}
use Rattle.rhd_dispatch.specs.Searched.{found}

pub data Asked : Type 0 where
  typed : Bytes → ℕ → Bytes → Asked  -- name, number of parameters, type of the object
  script : Bytes → ℕ → Asked  -- name, number of parameters
  native : Bytes → List TypeTag → Option OpToken → Asked  -- name, kinds, token

-- what a key without a path asks for, a native's with a token
abbrev pub asked_of : Key → Option OpToken → Asked
asked_of (Script path name params) token = script name params
asked_of (Typed path name params this_type) token = typed name params this_type
asked_of (Native path name types) token = native name types token

-- the key of a question
abbrev pub key_of : Asked → Key
key_of (typed name params this_type) = Typed None name params this_type
key_of (script name params) = Script None name params
key_of (native name kinds token) = Native None name kinds

-- a key that is the question's
abbrev pub IsAsk : Key → Option OpToken → Type 0
IsAsk key token = key ≡ key_of (asked_of key token)

-- a built-in is a method, and pure where it is no assignment
abbrev pub builtin_pick : EngineLists → OpToken → FnId → Pick
builtin_pick e token id = record { layer = Builtin; func = funcs.Method id (says (λ n. n.has_context) e.natives id) (not (is_assignment token)) (says (λ n. n.is_volatile) e.natives id); source = None }

-- the built-in of a token and two kinds
abbrev pub builtin : EngineLists → Option OpToken → List TypeTag → Option Pick
builtin e (Some token) (left ∷ right ∷ []) = option_map (builtin_pick e token) (lookup (operator_eq (record { token = token; left = left; right = right })) e.builtins)
builtin e token kinds = None

-- the native of a name that takes these types
abbrev pub native_found : EngineLists → List ModuleTree → Imports → Bytes → List TypeTag → Option Pick
native_found e libs imports name types = found e libs imports (Native None name types)

-- the declaration that answers a question
abbrev pub declared : EngineLists → List ModuleTree → Imports → Asked → Option Pick
declared e libs imports (typed name params this_type) = found e libs imports (Typed None name params this_type)
declared e libs imports (script name params) = found e libs imports (Script None name params)
declared e libs imports (native name kinds token) = first_of (native_found e libs imports name) (patterns kinds)

-- A script is looked up by its number of parameters, one of a type by that type too; a native by each pattern in turn, and then among the built-ins.
abbrev pub looked : EngineLists → List ModuleTree → Imports → Asked → Option Pick
looked e libs imports (typed name params this_type) = found e libs imports (Typed None name params this_type)
looked e libs imports (script name params) = found e libs imports (Script None name params)
looked e libs imports (native name kinds token) = option_or (first_of (native_found e libs imports name) (patterns kinds)) (builtin e token kinds)

-- the number of arguments, an object not counted
abbrev pub params_of : CallShape → ℕ
params_of (Plain args) = length args
params_of (ByRef first args) = length args + 1
params_of (Method object args) = length args

-- the scripts that a call may mean: for a method by the type of its object first
abbrev pub typed_asks : EngineLists → Bytes → CallShape → List Asked
typed_asks e name (Plain args) = []
typed_asks e name (ByRef first args) = []
typed_asks e name (Method object args) = typed name (length args) (display e object) ∷ []

abbrev pub script_asks : EngineLists → Bytes → CallShape → List Asked
script_asks e name shape = typed_asks e name shape ++ script name (params_of shape) ∷ []

abbrev pub native_ask : Bytes → Option OpToken → CallShape → Asked
native_ask name token shape = native name (map tag_of (all_args shape)) token

-- the scripts where they are allowed
abbrev pub allowed_asks : EngineLists → Bytes → Bool → CallShape → List Asked
allowed_asks e name native_only shape = if native_only then [] else script_asks e name shape

-- all of them in order: scripts, then natives and built-ins
abbrev pub asks : EngineLists → Bytes → Option OpToken → Bool → CallShape → List Asked
asks e name token native_only shape = allowed_asks e name native_only shape ++ native_ask name token shape ∷ []

abbrev pub pick_unqualified : EngineLists → List ModuleTree → Imports → Bytes → Option OpToken → Bool → CallShape → Option Pick
pick_unqualified e libs imports name token native_only shape = first_of (looked e libs imports) (asks e name token native_only shape)
