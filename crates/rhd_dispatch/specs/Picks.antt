-- The pick of a qualified call: the first question that is answered in the module in which its path begins.
use Rattle.std.specs.Prelude.{◌≡◌, List, [], ◌∷◌, ◌++◌, length, map, reverse, Option, None, Some}
use Rattle.std.specs.List.{enumerate_from}
use Rattle.std.specs.Map.{lookup}
use Rattle.std.specs.Option.{option_or}
use Rattle.rhd_value.specs.Tree.{Bytes}
use Rattle.rhd_value.specs.Kinds.{tag_of}
use Rattle.rhd_value.specs.Firsts.{first_of}
use Rattle.rhd_value.specs.Same.{text_eq}
use Rattle.rhd_func.specs.declared.request.CallShape.{CallShape}
use Rattle.rhd_func.specs.Shapes.{all_args}
use Rattle.rhd_value.specs.declared.tag.TypeTag.{TypeTag}
use Rattle.rhd_hash.specs.declared.key.Key.{Key}
use Rattle.rhd_hash.specs.declared.key.Key.TheVariants.{Script, Typed, Native}
use Rattle.rhd_call.specs.declared.pick.Layer.TheVariants.{Import, Static}
use Rattle.rhd_call.specs.declared.pick.Pick.{Pick}
use Rattle.rhd_engine.specs.Engine.{EngineLists, Imports}
use Rattle.rhd_dispatch.specs.Asks.{Asked, typed, script, native}
use Rattle.rhd_dispatch.specs.Patterns.{patterns}
use Rattle.rhd_dispatch.specs.Searched.{Place, pick_at, tree_place}

-- the modules in which a path may begin, each with its name: imports, latest first, then static modules
abbrev pub named_places : EngineLists → Imports → List (Bytes × Place)
named_places e imports =
    map (λ p. (p.1.0, tree_place e Import p)) (reverse (enumerate_from 0 imports))
    ++ map (λ p. (p.1.0, tree_place e Static p)) (enumerate_from 0 e.statics)

-- the module in which a path begins: the first of its first name
unfoldable pub root_of : EngineLists → Imports → List Bytes → Option Place
root_of e imports [] = None
root_of e imports (name ∷ rest) = lookup (text_eq name) (named_places e imports)

-- the names of a path behind the first
abbrev pub after_root : List Bytes → List Bytes
after_root [] = []
after_root (name ∷ rest) = rest

-- the questions of a qualified call: the names of its path behind the root's, its name and the kinds of all arguments
pub record AskedBelow : Type 0 where
  pub path : List Bytes
  pub name : Bytes
  pub kinds : List TypeTag

abbrev pub script_below : AskedBelow → Key
script_below q = Script (Some q.path) q.name (length q.kinds)

abbrev pub native_below : AskedBelow → Key
native_below q = Native (Some q.path) q.name q.kinds

-- the names of a path
abbrev pub names_of : Option (List Bytes) → List Bytes
names_of None = []
names_of (Some names) = names

-- what a native's key below a path asks for
abbrev pub asked_below : Key → AskedBelow
asked_below (Script path name params) = record { path = []; name = name; kinds = [] }
asked_below (Typed path name params this_type) = record { path = []; name = name; kinds = [] }
asked_below (Native path name types) = record { path = names_of path; name = name; kinds = types }

-- two keys that are those of the questions
abbrev pub IsAskBelow : Key → Key → Type 0
IsAskBelow by_script by_native = (by_script ≡ script_below (asked_below by_native)) × (by_native ≡ native_below (asked_below by_native))

-- what that module has: a script for the number of all arguments, an object counted, or else a native by each pattern of their kinds
abbrev pub pick_in : List Bytes → Bytes → CallShape → Place → Option Pick
pick_in path name shape place =
    option_or (pick_at (Script (Some (after_root path)) name (length (all_args shape))) place)
    (first_of (λ types. pick_at (Native (Some (after_root path)) name types) place) (patterns (map tag_of (all_args shape))))

-- the questions of a qualified call: for a script, then for a native; all arguments count, and there are no built-in functions
abbrev pub qualified_asks : Bytes → CallShape → List Asked
qualified_asks name shape = script name (length (all_args shape)) ∷ native name (map tag_of (all_args shape)) None ∷ []

abbrev pub asks_below : AskedBelow → List Asked
asks_below q = script q.name (length q.kinds) ∷ native q.name q.kinds None ∷ []

-- what answers a question below a path, in that module alone
abbrev pub looked_in : List Bytes → Option Place → Asked → Option Pick
looked_in path None asked = None
looked_in path (Some root) (typed name params this_type) = None
looked_in path (Some root) (script name params) = pick_at (Script (Some (after_root path)) name params) root
looked_in path (Some root) (native name kinds token) = first_of (λ types. pick_at (Native (Some (after_root path)) name types) root) (patterns kinds)

-- the pick of a qualified call: the first question that is answered
abbrev pub pick_qualified : EngineLists → Imports → List Bytes → Bytes → CallShape → Option Pick
pick_qualified e imports path name shape = first_of (looked_in path (root_of e imports path)) (qualified_asks name shape)
