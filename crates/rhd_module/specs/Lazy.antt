-- How what is listed in a module and below it is registered.
use Rattle.std.specs.Prelude.{◌≡◌, ◌⊎◌, ◌||◌, List, [], ◌∷◌, ◌++◌, if◌then◌else◌, Result, Ok, Err, ⊤}
use Rattle.std.specs.List.{AllByRecursion, Contains}
use Rattle.std.specs.Map.{keys_of}
use Rattle.rhd_hash.specs.Table.{HasOwnHashes, Clashing}
use Rattle.rhd_decl.specs.declared.fault.DeclFault.{DeclFault}
use Rattle.rhd_decl.specs.declared.fault.DeclFault.TheVariants.{HashCollision, OutOfMemory}
use Rattle.rhd_module.specs.Below.{lists_any, some_below, some_in}
use Rattle.rhd_table.specs.Indexed.{NoneClash}
use Rattle.rhd_module.specs.Index.{indexed}
use Rattle.rhd_module.specs.Manifests.{registered, registered_pairs}
use Rattle.rhd_module.specs.Tree.{ModuleTree, Subs, no_subs, sub}
use Rattle.rhd_module.specs.Walk.{tree}

-- a module with what it lists registered, and with these sub-modules
abbrev pub with_registered : ModuleTree → Subs → ModuleTree
with_registered m subs = record { own = (registered m).own; subs = subs }

-- a sub-module in whose tree something is listed has it registered, and is indexed; the others stay as they are
abbrev pub registered_subs : Subs → Subs
registered_subs no_subs = no_subs
registered_subs (sub name own subs later) =
    if lists_any own || some_below lists_any subs then sub name (indexed (registered (record { own = own; subs = subs }))).own (registered_subs subs) (registered_subs later)
    else sub name own subs (registered_subs later)

-- what is listed in a module and below it, registered; where nothing is, all stays as it is
abbrev pub registered_tree : ModuleTree → ModuleTree
registered_tree m = if some_in lists_any m then with_registered m (registered_subs m.subs) else m

-- the modules below one in whose tree something is listed
abbrev pub touched_below : Subs → List ModuleTree
touched_below no_subs = []
touched_below (sub name own subs later) = (if lists_any own || some_below lists_any subs then record { own = own; subs = subs } ∷ touched_below subs else []) ++ touched_below later

-- the same with itself
abbrev pub touched : ModuleTree → List ModuleTree
touched m = if some_in lists_any m then m ∷ touched_below m.subs else []

-- no two keys clash of the table that registering leaves in a module
abbrev pub HasApartTable : ModuleTree → Type 0
HasApartTable m = HasOwnHashes m.own.seeds (keys_of (registered_pairs m.own))

-- nor of the index of the tree that it leaves
abbrev pub HasApartTree : ModuleTree → Type 0
HasApartTree m = NoneClash m.own.seeds (keys_of (tree (registered_tree m)))

-- two keys clash of the table that it would leave in one of some modules, or of the index that it would leave of one of others; want of memory has no cause
abbrev pub RegisterClash : List ModuleTree → List ModuleTree → DeclFault → Type 0
RegisterClash tables trees OutOfMemory = ⊤
RegisterClash tables trees (HashCollision held other) =
    ((m : ModuleTree) × Contains tables m × Clashing m.own.seeds (keys_of (registered_pairs m.own)) held other)
    ⊎ ((m : ModuleTree) × Contains trees m × Clashing m.own.seeds (keys_of (tree (registered_tree m))) held other)
RegisterClash tables trees fault = ⊥

-- What registering all that is listed in a tree answers, and the module that it leaves: a clash in one of the tables that it would leave, or in the index of one of the sub-modules, refuses it.
abbrev pub RegistersTree : {A : Type 0} → ModuleTree → Result A DeclFault → ModuleTree → Type 0
RegistersTree old (Ok answer) new = AllByRecursion HasApartTable (touched old) × AllByRecursion HasApartTree (touched_below old.subs) × (new ≡ registered_tree old)
RegistersTree old (Err fault) new = RegisterClash (touched old) (touched_below old.subs) fault × (new ≡ old)
