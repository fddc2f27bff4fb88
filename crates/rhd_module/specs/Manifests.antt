-- How manifests are added to a module.
use Rattle.std.specs.Prelude.{◌≡◌, Bool, true, false, List, [], ◌∷◌, ◌++◌, map, reverse, Option, None, Some, Result, Ok, Err, ⊤}
use Rattle.std.specs.List.{find}
use Rattle.std.specs.Map.{keys_of}
use Rattle.rhd_value.specs.Tree.{Bytes, Tree}
use Rattle.rhd_map.specs.Puts.{put_entries}
use Rattle.rhd_hash.specs.Table.{HasOwnHashes, Clashing}
use Rattle.rhd_decl.specs.CustomTypes.{CustomTypes, type_info, put_type}
use Rattle.rhd_func.specs.declared.access.ManifestId.{ManifestId}
use Rattle.rhd_decl.specs.declared.fault.DeclFault.{DeclFault}
use Rattle.rhd_decl.specs.declared.fault.DeclFault.TheVariants.{HashCollision, IndexerNotAllowed, OutOfMemory}
use Rattle.rhd_manifest.specs.Entry.{Entry, entry_key, entry_pair}
use Rattle.rhd_manifest.specs.Manifest.{ManifestLists}
use Rattle.rhd_manifest.specs.Rank.{rank, all_vars, all_types}
use Rattle.rhd_decl.specs.Registration.{is_banned}
use Rattle.rhd_table.specs.Pairs.{Pairs, put_back, put_all}
use Rattle.rhd_module.specs.Tree.{ModuleTree, Lists}

-- the module with what a manifest lists above what it lists; it isn't indexed any more
abbrev pub with_listed : ManifestId × Bool → List Entry → ModuleTree → ModuleTree
with_listed manifest es m = record m { own = record m.own { manifests = m.own.manifests ++ manifest ∷ []; listed = es ++ m.own.listed; indexed = false } }

-- the module with a manifest above those that it has
abbrev pub with_manifest : List ManifestLists → ManifestId → Bool → ModuleTree → ModuleTree
with_manifest table id flatten m = with_listed (id, flatten) (rank table id flatten) m

-- variables and custom types put in one after the other
abbrev pub put_vars : List (Bytes × Tree) → List (Bytes × Tree) → List (Bytes × Tree)
put_vars vs es = put_entries vs es

abbrev pub put_types : List (Bytes × Bytes) → CustomTypes → CustomTypes
put_types [] types = types
put_types (t ∷ ts) types = put_types ts (put_type t.0 (type_info t.0 t.1 []) types)

abbrev pub with_contents : List (Bytes × Tree) → List (Bytes × Bytes) → ModuleTree → ModuleTree
with_contents vars types m = record m { own = record m.own { vars = put_vars vars m.own.vars; types = put_types types m.own.types } }

-- the module with a flattened manifest, and with the variables and custom types of it and of all below it
abbrev pub combined : List ManifestLists → ManifestId → ModuleTree → ModuleTree
combined table id m = with_contents (all_vars table id) (all_types table id) (with_manifest table id true m)

-- a listed function is an indexer of a type whose indexing has its meaning already
abbrev pub is_banned_entry : Entry → Bool
is_banned_entry e = is_banned e.name e.param_types

-- the first such indexer, from the lowest precedence to the highest
abbrev pub first_banned : List Entry → Option Entry
first_banned es = find is_banned_entry (reverse es)

-- they are refused exactly where there is such an indexer, with the key of the first; want of memory has no cause
abbrev pub RefusesIndexers : {A : Type 0} → List Entry → Result A DeclFault → Type 0
RefusesIndexers es (Ok answer) = first_banned es ≡ None
RefusesIndexers es (Err OutOfMemory) = ⊤
RefusesIndexers es (Err (IndexerNotAllowed key)) = (e : Entry) × (first_banned es ≡ Some e) × (key ≡ entry_key e)
RefusesIndexers es (Err fault) = ⊥

-- What adding a manifest answers, and the module that it leaves: a banned indexer of it or of a manifest below it refuses it.
abbrev pub AddsManifest : {A : Type 0} → List ManifestLists → ManifestId → ModuleTree → ModuleTree → Result A DeclFault → ModuleTree → Type 0
AddsManifest table id old done (Ok answer) new = (first_banned (rank table id true) ≡ None) × (new ≡ done)
AddsManifest table id old done (Err fault) new = RefusesIndexers {A = ManifestId} (rank table id true) (Err fault) × (new ≡ old)

-- what is listed, as declarations under their keys
abbrev pub lazy : Lists → Pairs
lazy own = map (entry_pair own.seeds) own.listed

-- the module with these declarations, indexed or not
abbrev pub with_pairs : Pairs → Bool → ModuleTree → ModuleTree
with_pairs ps indexed m = record m { own = record m.own { eager = ps; indexed = indexed } }

-- what is listed, registered from the lowest precedence to the highest, and the declarations over it
abbrev pub registered_pairs : Lists → Pairs
registered_pairs own = put_all own.eager (put_back (lazy own) [])

-- the module with what it lists registered; its manifests go
abbrev pub registered : ModuleTree → ModuleTree
registered m = record m { own = record m.own { eager = registered_pairs m.own; manifests = []; listed = []; indexed = false } }

-- What registering it answers, and the module that it leaves: two keys of the table that it would leave refuse it, if they clash.
abbrev pub RegistersListed : {A : Type 0} → ModuleTree → Result A DeclFault → ModuleTree → Type 0
RegistersListed old (Ok answer) new = HasOwnHashes old.own.seeds (keys_of (registered_pairs old.own)) × (new ≡ registered old)
RegistersListed old (Err OutOfMemory) new = new ≡ old
RegistersListed old (Err (HashCollision held other)) new = Clashing old.own.seeds (keys_of (registered_pairs old.own)) held other × (new ≡ old)
RegistersListed old (Err fault) new = ⊥
