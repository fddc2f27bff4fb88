-- Module algebra: one module joined with another.
use Rattle.std.specs.Prelude.{◌≡◌, ℕ, Bool, false, ◌&&◌, List, [], ◌∷◌, ◌++◌, map, if◌then◌else◌, is_none, is_some, ◌<◌, ◌^◌, Result, Ok, Err}
use Rattle.std.specs.Borrow.{Bor}
use Rattle.std.specs.List.{filter, AllByRecursion, Contains}
use Rattle.std.specs.Map.{keys_of}
use Rattle.rhd_value.specs.Tree.{Bytes, Tree}
use Rattle.rhd_value.specs.Entries.{found}
use Rattle.rhd_hash.specs.declared.mixer.Seeds.{Seeds}
use Rattle.rhd_hash.specs.Table.{HasOwnHashes, Clashing}
use Rattle.rhd_func.specs.declared.access.FnAccess.{FnAccess}
use Rattle.rhd_func.specs.declared.access.FnNamespace.{FnNamespace}
use Rattle.rhd_func.specs.Funcs.{is_script}
use Rattle.rhd_decl.specs.declared.declaration.Declaration.{Declaration}
use Rattle.rhd_decl.specs.declared.fault.DeclFault.{DeclFault}
use Rattle.rhd_decl.specs.declared.fault.DeclFault.TheVariants.{HashCollision, OutOfMemory}
use Rattle.rhd_manifest.specs.Entry.{Entry, entry_pair}
use Rattle.rhd_module.specs.Contents.{put_sub, find_sub}
use Rattle.rhd_module.specs.Manifests.{put_vars}
use Rattle.rhd_table.specs.Pairs.{put_all, put_back, without, Pairs}
use Rattle.rhd_module.specs.Shown.{shown}
use Rattle.rhd_module.specs.Tree.{Lists, ModuleTree, Subs, no_subs, sub, empty_module}

-- documentation with more, after a line break where there is some already
abbrev pub joined_doc : Bytes → Bytes → Bytes
joined_doc [] more = more
joined_doc (b ∷ bs) more = (b ∷ bs) ++ 10 ∷ more

-- sub-modules put in one after the other
abbrev pub put_subs : Subs → Subs → Subs
put_subs no_subs held = held
put_subs (sub name own below later) held = put_subs later (put_sub name (record { own = own; subs = below }) held)

-- variables and sub-modules put into a module
abbrev pub with_named : List (Bytes × Tree) → Subs → ModuleTree → ModuleTree
with_named vars subs m = record { own = record m.own { vars = put_vars vars m.own.vars }; subs = put_subs subs m.subs }

-- the lists of another module over those of one: its manifests above, its declarations and variables in the place of those of equal keys and names
abbrev pub over : Lists → Lists → Lists
over other own = record own {
  doc = joined_doc own.doc other.doc;
  vars = put_vars other.vars own.vars;
  eager = put_all other.eager own.eager;
  manifests = own.manifests ++ other.manifests;
  listed = other.listed ++ own.listed;
  indexed = false;
}

-- `combine`: its sub-modules too in the place of those of equal names
abbrev pub combined_with : ModuleTree → ModuleTree → ModuleTree
combined_with other m = record { own = over other.own m.own; subs = put_subs other.subs m.subs }

-- what is below another module put over, from the deepest up
abbrev pub over_all : Subs → Lists → Lists
over_all no_subs own = own
over_all (sub name other below later) own = over_all later (over other (over_all below own))

-- `combine_flatten`: what is below it, and then itself; no sub-module is put in
abbrev pub flattened_with : ModuleTree → ModuleTree → ModuleTree
flattened_with other m = record m { own = over other.own (over_all other.subs m.own) }

-- variables and sub-modules under new names alone
abbrev pub new_vars : List (Bytes × Tree) → List (Bytes × Tree) → List (Bytes × Tree)
new_vars own others = filter (λ v. is_none (found v.0 own)) others

abbrev pub fill_vars : List (Bytes × Tree) → List (Bytes × Tree) → List (Bytes × Tree)
fill_vars others own = put_vars (new_vars own others) own

abbrev pub new_subs : Subs → Subs → Subs
new_subs held no_subs = no_subs
new_subs held (sub name own below later) = if is_some (find_sub name held) then new_subs held later else sub name own below (new_subs held later)

abbrev pub fill_subs : Subs → Subs → Subs
fill_subs others held = put_subs (new_subs held others) held

-- `fill_with`: its manifests below, and its declarations under keys for which nothing is declared or listed
abbrev pub filled_with : ModuleTree → ModuleTree → ModuleTree
filled_with other m = record {
  own = record m.own {
    doc = joined_doc m.own.doc other.own.doc;
    vars = fill_vars other.own.vars m.own.vars;
    eager = put_all (without (shown m.own) other.own.eager) m.own.eager;
    manifests = other.own.manifests ++ m.own.manifests;
    listed = m.own.listed ++ other.own.listed;
    indexed = false;
  };
  subs = fill_subs other.subs m.subs;
}

-- which declarations pass
abbrev pub Passes : Type 0
Passes = Declaration → Bool

abbrev pub that_pass : Passes → Pairs → Pairs
that_pass passes ps = filter (λ p. passes p.1) ps

-- listed functions, from the lowest precedence to the highest, put over the declarations of a module
abbrev pub entries_over : Passes → List Entry → Lists → Pairs
entries_over passes es own = put_back (that_pass passes (map (entry_pair own.seeds) es)) own.eager

-- declarations put over those of a module
abbrev pub declared_over : Passes → Pairs → Lists → Pairs
declared_over passes ps own = put_all (that_pass passes ps) own.eager

-- what another module lists, and over it what it declares
abbrev pub registered_over : Passes → Lists → Lists → Pairs
registered_over passes other own = put_all (that_pass passes other.eager) (entries_over passes other.listed own)

abbrev pub merged_own : Passes → Lists → Lists → Lists
merged_own passes other own = record own {
  doc = joined_doc own.doc other.doc;
  vars = put_vars other.vars own.vars;
  eager = registered_over passes other own;
  indexed = false;
}

-- the sub-modules of another module, each merged into a new one, in the place of those of equal names
abbrev pub merge_subs : Passes → Seeds → Subs → Subs → Subs
merge_subs passes seeds no_subs held = held
merge_subs passes seeds (sub name own below later) held =
    merge_subs passes seeds later (put_sub name (record { own = merged_own passes own (empty_module seeds).own; subs = merge_subs passes seeds below no_subs }) held)

-- `merge_filtered`; `merge` is the same where all pass
abbrev pub merged_with : Passes → ModuleTree → ModuleTree → ModuleTree
merged_with passes other m = record { own = merged_own passes other.own m.own; subs = merge_subs passes m.own.seeds other.subs m.subs }

-- the new modules that this makes of the sub-modules of another one, and of those below them
abbrev pub rebuilt : Passes → Seeds → Subs → List ModuleTree
rebuilt passes seeds no_subs = []
rebuilt passes seeds (sub name own below later) = merged_with passes (record { own = own; subs = below }) (empty_module seeds) ∷ rebuilt passes seeds below ++ rebuilt passes seeds later

-- `retain_script_functions`: the scripts that pass; natives and manifests go
abbrev pub scripts_that : Passes → ModuleTree → ModuleTree
scripts_that passes m = record m { own = record m.own { eager = that_pass (λ d. is_script d.func && passes d) m.own.eager; manifests = []; listed = []; indexed = false } }

-- a filter tells by the namespace, the access, whether it is a script, the name and the number of parameters
abbrev pub passes_by : (FnNamespace → FnAccess → Bool → Bytes → ℕ → Bool) → Passes
passes_by filter d = filter d.metadata.namespace d.metadata.access (is_script d.func) d.metadata.name d.metadata.num_params

-- one for scripts alone by the rest
abbrev pub script_passes_by : (FnNamespace → FnAccess → Bytes → ℕ → Bool) → Passes
script_passes_by filter d = filter d.metadata.namespace d.metadata.access d.metadata.name d.metadata.num_params

-- what such a filter answers is told by a function; what one for scripts alone answers too
abbrev pub FilterTells : (FnNamespace → FnAccess → Bool → Bor Bytes → ℕ → Bool → Type 0) → (FnNamespace → FnAccess → Bool → Bytes → ℕ → Bool) → Type 0
FilterTells Answers tells = (namespace : FnNamespace) (access : FnAccess) (script : Bool) (name : Bor Bytes) (params : ℕ) (r : Bool)
    → params < 2 ^ 64 → Answers namespace access script name params r → r ≡ tells namespace access script name.now params

abbrev pub ScriptFilterTells : (FnNamespace → FnAccess → Bor Bytes → ℕ → Bool → Type 0) → (FnNamespace → FnAccess → Bytes → ℕ → Bool) → Type 0
ScriptFilterTells Answers tells = (namespace : FnNamespace) (access : FnAccess) (name : Bor Bytes) (params : ℕ) (r : Bool) → params < 2 ^ 64 → Answers namespace access name params r → r ≡ tells namespace access name.now params

-- no two keys of a module's declarations clash
abbrev pub HasOwnTable : ModuleTree → Type 0
HasOwnTable m = HasOwnHashes m.own.seeds (keys_of m.own.eager)

-- two keys of the declarations of one of these modules clash; want of memory has no cause
abbrev pub SomeClash : List ModuleTree → DeclFault → Type 0
SomeClash ms OutOfMemory = Unit {0}
SomeClash ms (HashCollision held other) = (m : ModuleTree) × Contains ms m × Clashing m.own.seeds (keys_of m.own.eager) held other
SomeClash ms fault = ⊥

-- What joining two modules answers, and the module that it leaves: two keys of the declarations of one of the modules that it would make or change refuse it, if they clash.
abbrev pub Joins : {A : Type 0} → List ModuleTree → ModuleTree → ModuleTree → Result A DeclFault → ModuleTree → Type 0
Joins changed done old (Ok answer) new = AllByRecursion HasOwnTable changed × (new ≡ done)
Joins changed done old (Err fault) new = SomeClash changed fault × (new ≡ old)

-- the same of a call that makes a module
abbrev pub IsJoined : List ModuleTree → ModuleTree → Result ModuleTree DeclFault → Type 0
IsJoined changed done (Ok made) = AllByRecursion HasOwnTable changed × (made ≡ done)
IsJoined changed done (Err fault) = SomeClash changed fault

-- the modules that merging changes and makes
abbrev pub merged_all : Passes → ModuleTree → ModuleTree → List ModuleTree
merged_all passes other m = merged_with passes other m ∷ rebuilt passes m.own.seeds other.subs

-- each call's own
abbrev pub Combines : {A : Type 0} → ModuleTree → ModuleTree → Result A DeclFault → ModuleTree → Type 0
Combines other old result new = let done = combined_with other old in Joins (done ∷ []) done old result new

abbrev pub Flattens : {A : Type 0} → ModuleTree → ModuleTree → Result A DeclFault → ModuleTree → Type 0
Flattens other old result new = let done = flattened_with other old in Joins (done ∷ []) done old result new

abbrev pub Fills : {A : Type 0} → ModuleTree → ModuleTree → Result A DeclFault → ModuleTree → Type 0
Fills other old result new = let done = filled_with other old in Joins (done ∷ []) done old result new

abbrev pub Merges : {A : Type 0} → Passes → ModuleTree → ModuleTree → Result A DeclFault → ModuleTree → Type 0
Merges passes other old result new = Joins (merged_all passes other old) (merged_with passes other old) old result new
