-- Modules with their names, and lists of which the last is taken off.
use Rattle.std.specs.Prelude.{◌≡◌, Bool, List, [], ◌∷◌, ◌++◌, reverse, Option, None, Some}
use Rattle.std.specs.List.{list_all}
use Rattle.std.specs.Map.{lookup}
use Rattle.std.specs.Ordering.{nat_cmp}
use Rattle.std.specs.Cmp.Lexicographic.{slice_cmp}
use Rattle.std.specs.BTreeMap.{insert_entry}
use Rattle.rhd_value.specs.Tree.{Bytes}
use Rattle.rhd_value.specs.Same.{text_eq}
use Rattle.rhd_module.specs.Tree.{ModuleTree}

-- modules with their names
abbrev pub Imports : Type 0
Imports = List (Bytes × ModuleTree)

-- each module is indexed
abbrev pub all_indexed : Imports → Bool
all_indexed es = list_all (λ e. e.1.own.indexed) es

-- the latest module of a name
abbrev pub latest_of : Bytes → Imports → Option ModuleTree
latest_of name es = lookup (text_eq name) (reverse es)

-- the module of a name
abbrev pub module_of : Bytes → Imports → Option ModuleTree
module_of name es = lookup (text_eq name) es

-- in ascending order of name: the module replaces one of its name, and else goes to its place
abbrev pub put_module : Bytes → ModuleTree → Imports → Imports
put_module name m es = insert_entry (slice_cmp nat_cmp) es name m

-- one more module behind the first
abbrev pub second : ModuleTree → List ModuleTree → List ModuleTree
second added [] = added ∷ []
second added (first ∷ more) = first ∷ added ∷ more

-- the last module replaced under its name, if there is one
abbrev pub with_last : ModuleTree → Imports → Imports
with_last m [] = []
with_last m (e ∷ []) = (e.0, m) ∷ []
with_last m (e ∷ next ∷ es) = e ∷ with_last m (next ∷ es)

-- the last is taken off, and none is where there is none
abbrev pub Popped : {A : Type 0} → List A → Option A → List A → Type 0
Popped old None new = (old ≡ []) × (new ≡ [])
Popped old (Some last) new = old ≡ new ++ last ∷ []
