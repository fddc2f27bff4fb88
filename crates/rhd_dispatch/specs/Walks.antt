-- The machine's own words, by which its loops are proved; nothing here has to be believed.
use Rattle.std.specs.Prelude.{◌≡◌, ℕ, ◌-◌, Bool, true, ◌||◌, List, ◌++◌, map, take, drop, reverse, Option, None, Some, if◌then◌else◌}
use Rattle.std.specs.List.{enumerate_from, list_any, list_all}
use Rattle.std.specs.Option.{option_or}
use Rattle.rhd_value.specs.Tree.{Bytes}
use Rattle.rhd_value.specs.Firsts.{first_of}
use Rattle.rhd_value.specs.Same.{tag_eq, text_eq}
use Rattle.rhd_value.specs.declared.tag.TypeTag.{TypeTag}
use Rattle.rhd_value.specs.declared.tag.TypeTag.TheVariants.{Dynamic}
use Rattle.rhd_hash.specs.declared.key.Key.{Key}
use Rattle.rhd_hash.specs.declared.key.Key.TheVariants.{Script, Typed, Native}
use Rattle.rhd_hash.specs.Keys.{key_name, key_types}
use Rattle.rhd_hash.specs.Matching.{types_match}
use Rattle.rhd_hash.specs.Parts.{untyped}
use Rattle.rhd_func.specs.declared.func.RhaiFunc.{RhaiFunc}
use Rattle.rhd_module.specs.Below.{may_contain, may_list_dynamic}
use Rattle.rhd_module.specs.Matching.{may_match}
use Rattle.rhd_module.specs.Shown.{shown}
use Rattle.rhd_module.specs.Tree.{ModuleTree}
use Rattle.rhd_module.specs.Walk.{tree}
use Rattle.rhd_layers.specs.Marks.{lacks}
use Rattle.rhd_call.specs.declared.pick.Layer.{Layer}
use Rattle.rhd_call.specs.declared.pick.Layer.TheVariants.{Library, Global, Import, Static}
use Rattle.rhd_call.specs.declared.pick.Pick.{Pick}
use Rattle.rhd_engine.specs.Engine.{Imports}
use Rattle.rhd_dispatch.specs.Patterns.{patterns, patterns_to}
use Rattle.rhd_dispatch.specs.Picks.{AskedBelow, script_below}
use Rattle.rhd_dispatch.specs.Searched.{Place, pick_at}

-- each with its number, and so with the latest first
abbrev pub numbered : {X : Type 0} → List X → List (ℕ × X)
numbered xs = enumerate_from 0 xs

abbrev pub latest : {X : Type 0} → List X → List (ℕ × X)
latest xs = reverse (enumerate_from 0 xs)

-- a module alone at a layer, and the root of a tree at one
abbrev pub alone : Layer → ModuleTree → Place
alone layer m = record { layer = layer; source = m.own.id; pairs = shown m.own }

abbrev pub rooted : Layer → ModuleTree → Place
rooted layer m = record { layer = layer; source = m.own.id; pairs = tree m }

-- a module by its number
abbrev pub place_of : (ℕ → Layer) → ℕ × ModuleTree → Place
place_of layer (n, m) = alone (layer n) m

abbrev pub place_of_tree : (ℕ → Layer) → ℕ × (Bytes × ModuleTree) → Place
place_of_tree layer (n, named) = rooted (layer n) named.1

-- what it has for a key
abbrev pub in_own : (ℕ → Layer) → Key → ℕ × ModuleTree → Option Pick
in_own layer key y = pick_at key (place_of layer y)

abbrev pub in_tree : (ℕ → Layer) → Key → ℕ × (Bytes × ModuleTree) → Option Pick
in_tree layer key y = pick_at key (place_of_tree layer y)

-- libraries, latest first, global modules in order, imports, latest first, static modules in order
abbrev pub library_places : List ModuleTree → List Place
library_places libs = map (place_of Library) (latest libs)

abbrev pub global_places : List ModuleTree → List Place
global_places globals = map (place_of Global) (numbered globals)

abbrev pub import_trees : Imports → List Place
import_trees imports = map (place_of_tree Import) (latest imports)

abbrev pub static_trees : Imports → List Place
static_trees statics = map (place_of_tree Static) (numbered statics)

abbrev pub all_places : List ModuleTree → List ModuleTree → Imports → Imports → List Place
all_places libs globals imports statics = library_places libs ++ (global_places globals ++ (import_trees imports ++ static_trees statics))

-- the pick of a function that was found in a module
abbrev pub picked : Layer → RhaiFunc → ModuleTree → Pick
picked layer func m = record { layer = layer; func = func; source = m.own.id }

-- what is found under a key
abbrev pub found_in : List ModuleTree → List ModuleTree → Imports → Imports → Key → Option Pick
found_in libs globals imports statics key = first_of (pick_at key) (all_places libs globals imports statics)

-- a native's key with these types
abbrev pub with_types : List TypeTag → Key → Key
with_types types (Script path name params) = Script path name params
with_types types (Typed path name params this_type) = Typed path name params this_type
with_types types (Native path name own) = Native path name types

-- what one place has for the questions below a path
abbrev pub pick_below : AskedBelow → Place → Option Pick
pick_below q place = option_or (pick_at (script_below q) place) (first_of (λ types. pick_at (Native (Some q.path) q.name types) place) (patterns q.kinds))

-- some type is `Dynamic`
abbrev pub any_dynamic : List TypeTag → Bool
any_dynamic types = list_any (λ t. tag_eq t Dynamic) types

-- a tree may have a native of this name with so many parameters, one of which is `Dynamic`, by its filter
abbrev pub may_have : Bytes → ℕ → ModuleTree → Bool
may_have name params m = may_contain m (untyped m.own.seeds name params)

abbrev pub any_may_have : Bytes → ℕ → Imports → Bool
any_may_have name params es = list_any (λ e. may_have name params e.1) es

-- a module lists something, and has a native with so many parameters of this name, one of which is `Dynamic`, or one whose hash is the same modulo 64
abbrev pub may_list : Bytes → ℕ → ModuleTree → Bool
may_list name params m = may_list_dynamic m.own.seeds (untyped m.own.seeds name params) m.own

-- it declares a native of this name for these kinds, the first n of whose types are exact, or may list one
abbrev pub may_show : ℕ → Bytes → ℕ → List TypeTag → ModuleTree → Bool
may_show n name params kinds m = may_match m n name kinds || may_list name params m

abbrev pub any_may_show : ℕ → Bytes → ℕ → List TypeTag → List ModuleTree → Bool
any_may_show n name params kinds ms = list_any (may_show n name params kinds) ms

-- no module has a native of a key's name for other types, one of which is `Dynamic`, and each of which is that of the key, or, behind the first n ones, `Dynamic`
abbrev pub ShowsNone : ℕ → Key → List ModuleTree → Type 0
ShowsNone n key ms = (types : List TypeTag) → types_match n types (key_types key) ≡ true → any_dynamic types ≡ true → list_all (lacks (Native None (key_name key) types)) ms ≡ true

-- the root of a path's first name
abbrev pub named_at : (ℕ → Layer) → Bytes → ℕ × (Bytes × ModuleTree) → Option Place
named_at layer name y = if text_eq name y.1.0 then Some (place_of_tree layer y) else None

-- what the first pattern gives that gives something, where some types are chosen and n of the others may change
abbrev pub first_match : (List TypeTag → Option Pick) → List TypeTag → ℕ → List TypeTag → Option Pick
first_match look chosen n rest = first_of (λ types. look (chosen ++ types)) (patterns_to n rest)

-- what the first pattern of a key's types gives that gives something, where the types before a place stay
abbrev pub first_typed : (Key → Option Pick) → Key → ℕ → Option Pick
first_typed look key place = first_match (λ types. look (with_types types key)) (take place (key_types key)) (16 - place) (drop place (key_types key))
