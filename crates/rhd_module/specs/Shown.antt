-- What a module has for a key.
use Rattle.std.specs.Prelude.{◌++◌, List, map, Option}
use Rattle.std.specs.Map.{lookup}
use Rattle.rhd_hash.specs.declared.key.Key.{Key}
use Rattle.rhd_hash.specs.declared.mixer.Seeds.{Seeds}
use Rattle.rhd_decl.specs.declared.declaration.Declaration.{Declaration}
use Rattle.rhd_hash.specs.Keys.{key_eq}
use Rattle.rhd_manifest.specs.Entry.{Entry, entry_pair}
use Rattle.rhd_manifest.specs.Rank.{firsts}
use Rattle.rhd_module.specs.Tree.{Lists, ModuleTree}
use Rattle.rhd_table.specs.Pairs.{Pairs, without}

-- declarations, then what is listed under other keys: the first under each
abbrev pub shown_of : Seeds → Pairs → List Entry → Pairs
shown_of seeds eager listed = eager ++ without eager (map (entry_pair seeds) (firsts listed))

-- what a module shows
abbrev pub shown : Lists → Pairs
shown own = shown_of own.seeds own.eager own.listed

-- the first declaration with a key
unfoldable pub own_decl : ModuleTree → Key → Option Declaration
own_decl m key = lookup (key_eq key) (shown m.own)
