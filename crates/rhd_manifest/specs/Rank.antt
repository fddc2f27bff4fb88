-- Which entries a manifest lists, from the highest precedence to the lowest.
use Rattle.std.specs.Prelude.{ℕ, zero, suc, Bool, true, not, List, [], ◌∷◌, ◌++◌, reverse, if◌then◌else◌, Option}
use Rattle.std.specs.List.{flat_map, find, filter}
use Rattle.rhd_value.specs.Tree.{Bytes, Tree}
use Rattle.rhd_hash.specs.declared.key.Key.{Key}
use Rattle.rhd_hash.specs.Keys.{key_eq}
use Rattle.rhd_func.specs.declared.access.ManifestId.{ManifestId}
use Rattle.rhd_manifest.specs.Entry.{Entry, entry_key}
use Rattle.rhd_manifest.specs.Manifest.{ManifestLists, manifest_at}

-- the ranks of sub-manifests from the last to the first, each flattened, if this one is; then its entries from the last to the first
abbrev pub rank_by : (ManifestId → List Entry) → ManifestLists → Bool → List Entry
rank_by flattened m flat = (if flat then flat_map (λ s. flattened s.1) (reverse m.subs) else []) ++ reverse m.entries

-- sub-manifests have lower numbers, so a depth above a manifest's number reaches all below it
abbrev pub flattened_to : ℕ → List ManifestLists → ManifestId → List Entry
flattened_to zero table id = []
flattened_to (suc depth) table id = rank_by (flattened_to depth table) (manifest_at table id) true

abbrev pub flattened : List ManifestLists → ManifestId → List Entry
flattened table id = flattened_to (suc id.0) table id

-- the entries that a manifest lists, flattened or not
abbrev pub rank_of : List ManifestLists → ManifestLists → Bool → List Entry
rank_of table m flat = rank_by (flattened table) m flat

-- the same of the manifest of a number
abbrev pub rank : List ManifestLists → ManifestId → Bool → List Entry
rank table id flat = rank_of table (manifest_at table id) flat

-- the first of some entries under a key
abbrev pub find_entry : Key → List Entry → Option Entry
find_entry key es = find (λ e. key_eq key (entry_key e)) es

-- the first under each key: one whose key stands before it is hidden
abbrev pub firsts : List Entry → List Entry
firsts [] = []
firsts (e ∷ es) = e ∷ filter (λ d. not (key_eq (entry_key d) (entry_key e))) (firsts es)

-- a manifest and all below it: each before its sub-manifests, these in order
abbrev pub walk_to : ℕ → List ManifestLists → ManifestId → List ManifestId
walk_to zero table id = []
walk_to (suc depth) table id = id ∷ flat_map (λ s. walk_to depth table s.1) (manifest_at table id).subs

abbrev pub walk : List ManifestLists → ManifestId → List ManifestId
walk table id = walk_to (suc id.0) table id

-- the variables and the custom types of all these
abbrev pub over_walk : {A : Type 0} → (ManifestLists → List A) → List ManifestLists → ManifestId → List A
over_walk f table id = flat_map (λ i. f (manifest_at table i)) (walk table id)

abbrev pub all_vars : List ManifestLists → ManifestId → List (Bytes × Tree)
all_vars table id = over_walk (λ m. m.vars) table id

abbrev pub all_types : List ManifestLists → ManifestId → List (Bytes × Bytes)
all_types table id = over_walk (λ m. m.types) table id
