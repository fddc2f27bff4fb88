-- Where a key is found: the modules in which a call looks, in the order in which they are searched.
use Rattle.std.specs.Prelude.{ℕ, List, ◌++◌, map, reverse, Option, option_map}
use Rattle.std.specs.List.{enumerate_from}
use Rattle.std.specs.Map.{lookup}
use Rattle.rhd_value.specs.Tree.{Bytes}
use Rattle.rhd_value.specs.Firsts.{first_of}
use Rattle.rhd_hash.specs.declared.key.Key.{Key}
use Rattle.rhd_hash.specs.Keys.{key_eq}
use Rattle.rhd_module.specs.Shown.{shown}
use Rattle.rhd_module.specs.Tree.{ModuleTree}
use Rattle.rhd_table.specs.Pairs.{Pairs}
use Rattle.rhd_module.specs.Walk.{tree}
use Rattle.rhd_call.specs.declared.pick.Layer.{Layer}
use Rattle.rhd_call.specs.declared.pick.Layer.TheVariants.{Library, Global, Import, Static}
use Rattle.rhd_call.specs.declared.pick.Pick.{Pick}
use Rattle.rhd_engine.specs.Engine.{EngineLists, Imports}

-- a module with its place: the source of its functions, and the declarations that it has under their keys, in order
pub record Place : Type 0 where
  pub layer : Layer
  pub source : Option Bytes
  pub pairs : Pairs

-- a library or a global module by its number has what it shows itself; its id is the source of its functions
abbrev pub own_place : EngineLists → (ℕ → Layer) → ℕ × ModuleTree → Place
own_place e layer (n, m) = record { layer = layer n; source = m.own.id; pairs = shown m.own }

-- an import or a static module by its number has what its whole tree shows; the id of its root is the source of them all
abbrev pub tree_place : EngineLists → (ℕ → Layer) → ℕ × (Bytes × ModuleTree) → Place
tree_place e layer (n, named) = record { layer = layer n; source = named.1.own.id; pairs = tree named.1 }

abbrev pub libraries : EngineLists → List ModuleTree → List Place
libraries e libs = map (own_place e Library) (reverse (enumerate_from 0 libs))

abbrev pub global_modules : EngineLists → List Place
global_modules e = map (own_place e Global) (enumerate_from 0 e.globals)

abbrev pub import_places : EngineLists → Imports → List Place
import_places e imports = map (tree_place e Import) (reverse (enumerate_from 0 imports))

abbrev pub static_modules : EngineLists → List Place
static_modules e = map (tree_place e Static) (enumerate_from 0 e.statics)

-- libraries, latest first; global modules in order; imports, latest first; static modules in ascending order of name
abbrev pub searched : EngineLists → List ModuleTree → Imports → List Place
searched e libs imports = libraries e libs ++ (global_modules e ++ (import_places e imports ++ static_modules e))

-- what a place has for a key: the first of its declarations under it
unfoldable pub pick_at : Key → Place → Option Pick
pick_at key place = option_map (λ d. record { layer = place.layer; func = d.func; source = place.source }) (lookup (key_eq key) place.pairs)

-- what the first place has that has the key
unfoldable pub found : EngineLists → List ModuleTree → Imports → Key → Option Pick
found e libs imports key = first_of (pick_at key) (searched e libs imports)
