-- The modules of manifests.
use Rattle.std.specs.Prelude.{◌≡◌, ℕ, zero, suc, true, false, List, [], ◌∷◌, None, Result, Ok, Err, ⊤}
use Rattle.std.specs.List.{Contains}
use Rattle.std.specs.Map.{keys_of}
use Rattle.rhd_value.specs.Tree.{Bytes}
use Rattle.rhd_hash.specs.declared.mixer.Seeds.{Seeds}
use Rattle.rhd_hash.specs.Table.{Clashing}
use Rattle.rhd_func.specs.declared.access.ManifestId.{ManifestId}
use Rattle.rhd_decl.specs.declared.fault.DeclFault.{DeclFault}
use Rattle.rhd_decl.specs.declared.fault.DeclFault.TheVariants.{HashCollision, OutOfMemory}
use Rattle.rhd_manifest.specs.Manifest.{ManifestLists, manifest_at}
use Rattle.rhd_manifest.specs.Rank.{rank, walk}
use Rattle.rhd_module.specs.Contents.{with_sub}
use Rattle.rhd_table.specs.Indexed.{NoneClash}
use Rattle.rhd_module.specs.Index.{indexed}
use Rattle.rhd_module.specs.Manifests.{with_contents, with_manifest, first_banned, RefusesIndexers}
use Rattle.rhd_module.specs.Tree.{ModuleTree, empty_module}
use Rattle.rhd_module.specs.Walk.{tree}

-- sub-modules put in one after the other
abbrev pub with_subs : (ManifestId → ModuleTree) → List (Bytes × ManifestId) → ModuleTree → ModuleTree
with_subs module_of [] m = m
with_subs module_of (s ∷ ss) m = with_subs module_of ss (with_sub s.0 (module_of s.1) m)

-- what a manifest lists itself, with its variables and custom types
abbrev pub own_made : Seeds → List ManifestLists → ManifestId → ModuleTree
own_made seeds table id =
    let lists = manifest_at table id in
    with_contents lists.vars lists.types (with_manifest table id false (empty_module seeds))

-- the same with the modules of its sub-manifests; it is indexed
abbrev pub made_by : (ManifestId → ModuleTree) → Seeds → List ManifestLists → ManifestId → ModuleTree
made_by module_of seeds table id = indexed (with_subs module_of (manifest_at table id).subs (own_made seeds table id))

abbrev pub made_to : ℕ → Seeds → List ManifestLists → ManifestId → ModuleTree
made_to zero seeds table id = empty_module seeds
made_to (suc depth) seeds table id = made_by (made_to depth seeds table) seeds table id

-- the module of a manifest
abbrev pub made : Seeds → List ManifestLists → ManifestId → ModuleTree
made seeds table id = made_to (suc id.0) seeds table id

-- no two keys of the index of such a module clash
abbrev pub IsMadeApart : Seeds → List ManifestLists → ManifestId → Type 0
IsMadeApart seeds table id = NoneClash seeds (keys_of (tree (made seeds table id)))

-- two keys of the index of one of these modules clash; want of memory has no cause
abbrev pub MadeClash : Seeds → List ManifestLists → List ManifestId → DeclFault → Type 0
MadeClash seeds table ids OutOfMemory = ⊤
MadeClash seeds table ids (HashCollision held other) = (id : ManifestId) × Contains ids id × Clashing seeds (keys_of (tree (made seeds table id))) held other
MadeClash seeds table ids fault = ⊥

-- What making the module of a manifest answers: a banned indexer of it or of a manifest below it refuses it, and where there is none, two keys of the index of its module, or of one below it, if they clash.
abbrev pub Makes : Seeds → List ManifestLists → ManifestId → Result ModuleTree DeclFault → Type 0
Makes seeds table id (Ok m) = (first_banned (rank table id true) ≡ None) × ((i : ManifestId) → Contains (walk table id) i → IsMadeApart seeds table i) × (m ≡ made seeds table id)
Makes seeds table id (Err (HashCollision held other)) = (first_banned (rank table id true) ≡ None) × MadeClash seeds table (walk table id) (HashCollision held other)
Makes seeds table id (Err fault) = RefusesIndexers {A = ManifestId} (rank table id true) (Err fault)
