-- What a module keeps of its tree while it is indexed, and what building it answers.
use Rattle.std.specs.Prelude.{◌≡◌, ℕ, true, ◌||◌, List, Result, Ok, Err}
use Rattle.std.specs.List.{list_any}
use Rattle.std.specs.Option.{option_map}
use Rattle.std.specs.Map.{lookup, keys_of}
use Rattle.rhd_hash.specs.declared.key.Key.{Key}
use Rattle.rhd_hash.specs.Keys.{key_eq}
use Rattle.rhd_hash.specs.Filter.{is_marked}
use Rattle.rhd_hash.specs.Table.{Clashing}
use Rattle.rhd_decl.specs.declared.fault.DeclFault.{DeclFault}
use Rattle.rhd_decl.specs.declared.fault.DeclFault.TheVariants.{HashCollision, OutOfMemory}
use Rattle.rhd_module.specs.Tree.{ModuleTree, Lists}
use Rattle.rhd_module.specs.Walk.{tree}
use Rattle.rhd_module.specs.Below.{some_in, declares_global, declares_dynamic}
use Rattle.rhd_table.specs.Marks.{may_be_dynamic, lists_dynamic}
use Rattle.rhd_table.specs.Indexed.{Indexed, NoneClash}

-- the index of a module has its seeds, and no two keys of the tree clash; it finds under each key what the tree has first, and tells of the tree what is asked
abbrev pub IsIndexOf : Indexed → ModuleTree → Type 0
IsIndexOf index m =
    (index.seeds ≡ m.own.seeds)
    × NoneClash m.own.seeds (keys_of (tree m))
    × ((key : Key) → lookup (key_eq key) index.pairs ≡ option_map (λ d. d.func) (lookup (key_eq key) (tree m)))
    × ((hash : ℕ) → is_marked 8 index.marks hash ≡ some_in (declares_dynamic m.own.seeds hash) m)
    × (index.has_global ≡ some_in declares_global m)

-- a module's index is that of its tree while it is indexed
abbrev pub IsKept : Indexed → ModuleTree → Type 0
IsKept index m = m.own.indexed ≡ true → IsIndexOf index m

-- the filter of what a module declares and lists itself
abbrev pub IsFilter : List ℕ → Lists → Type 0
IsFilter marks own = (hash : ℕ) → is_marked 8 marks hash ≡ (list_any (λ p. may_be_dynamic own.seeds hash p.0) own.eager || lists_dynamic own.seeds hash own.listed)

abbrev pub indexed : ModuleTree → ModuleTree
indexed m = record m { own = record m.own { indexed = true } }

-- What building an index answers, and the module that it leaves: two keys of the tree that clash refuse it.
abbrev pub Indexes : {A : Type 0} → ModuleTree → Result A DeclFault → ModuleTree → Type 0
Indexes old (Ok answer) new = NoneClash old.own.seeds (keys_of (tree old)) × (new ≡ indexed old)
Indexes old (Err OutOfMemory) new = new ≡ old
Indexes old (Err (HashCollision held other)) new = Clashing old.own.seeds (keys_of (tree old)) held other × (new ≡ old)
Indexes old (Err fault) new = ⊥
