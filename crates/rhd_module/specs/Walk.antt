-- The pairs of a module and of all below it, under which its functions are found by a qualified name.
use Rattle.std.specs.Prelude.{List, [], ◌∷◌, ◌++◌, Option}
use Rattle.std.specs.Map.{lookup}
use Rattle.rhd_value.specs.Tree.{Bytes}
use Rattle.rhd_hash.specs.declared.key.Key.{Key}
use Rattle.rhd_hash.specs.Keys.{key_eq}
use Rattle.rhd_decl.specs.declared.declaration.Declaration.{Declaration}
use Rattle.rhd_module.specs.Tree.{ModuleTree, Subs, no_subs, sub}
use Rattle.rhd_table.specs.Pairs.{Pairs}
use Rattle.rhd_module.specs.Shown.{shown}
use Rattle.rhd_table.specs.Paths.{pairs_at}

-- the pairs of the sub-modules under a path, in descending order of name; a module's own come before those of its sub-modules
abbrev pub below : List Bytes → Subs → Pairs
below path no_subs = []
below path (sub name own subs later) = below path later ++ (pairs_at (path ++ name ∷ []) (shown own) ++ below (path ++ name ∷ []) subs)

-- the whole tree of a module at a path
abbrev pub walk : List Bytes → ModuleTree → Pairs
walk path m = pairs_at path (shown m.own) ++ below path m.subs

-- the path of a root is empty: the name of an import or of a static module isn't part of it
abbrev pub tree : ModuleTree → Pairs
tree m = walk [] m

-- what the tree has first for a key
unfoldable pub qualified : ModuleTree → Key → Option Declaration
qualified m key = lookup (key_eq key) (tree m)
