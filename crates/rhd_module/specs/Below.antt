-- What holds of some module of a tree, and which module stands under a path.
use Rattle.std.specs.Prelude.{ℕ, Bool, false, not, ◌||◌, ◌&&◌, List, [], ◌∷◌, if◌then◌else◌, Option, Some}
use Rattle.std.specs.Option.{option_map, option_and_then}
use Rattle.std.specs.List.{list_any}
use Rattle.rhd_value.specs.Tree.{Bytes, Tree, copied}
use Rattle.rhd_value.specs.Entries.{found}
use Rattle.rhd_hash.specs.declared.mixer.Seeds.{Seeds}
use Rattle.rhd_func.specs.Access.{is_global_namespace}
use Rattle.rhd_manifest.specs.Listing.{is_none_of}
use Rattle.rhd_module.specs.Tree.{ModuleTree, Lists, Subs, no_subs, sub}
use Rattle.rhd_module.specs.Shown.{shown}
use Rattle.rhd_module.specs.Contents.{find_sub}
use Rattle.rhd_table.specs.Marks.{may_be_dynamic}

-- some of these modules, or one below them, has this
abbrev pub some_below : (Lists → Bool) → Subs → Bool
some_below has no_subs = false
some_below has (sub name own subs later) = has own || (some_below has subs || some_below has later)

-- the module or one below it has this
abbrev pub some_in : (Lists → Bool) → ModuleTree → Bool
some_in has m = has m.own || some_below has m.subs

-- some declaration is found without the module's name
abbrev pub declares_global : Lists → Bool
declares_global own = list_any (λ p. is_global_namespace p.1.metadata.namespace) (shown own)

-- some declaration has a key with a parameter of any type, and this hash, as filters go by it
abbrev pub declares_dynamic : Seeds → ℕ → Lists → Bool
declares_dynamic seeds hash own = list_any (λ p. may_be_dynamic seeds hash p.0) (shown own)

-- something is listed
abbrev pub lists_any : Lists → Bool
lists_any own = not (is_none_of own.listed)

-- something is listed, and a declaration or what is listed has such a key
abbrev pub may_list_dynamic : Seeds → ℕ → Lists → Bool
may_list_dynamic seeds hash own = lists_any own && declares_dynamic seeds hash own

-- some declaration of the tree has such a key, or, while it isn't indexed, of the module alone
abbrev pub may_contain : ModuleTree → ℕ → Bool
may_contain m hash = if m.own.indexed then some_in (declares_dynamic m.own.seeds hash) m else declares_dynamic m.own.seeds hash m.own

-- the module under these names
abbrev pub module_at : List Bytes → ModuleTree → Option ModuleTree
module_at [] m = Some m
module_at (name ∷ names) m = option_and_then (module_at names) (find_sub name m.subs)

-- a copy of the variable of this name of the module under these names
abbrev pub qualified_var : List Bytes → Bytes → ModuleTree → Option Tree
qualified_var path name m = option_and_then (λ at. option_map copied (found name at.own.vars)) (module_at path m)
