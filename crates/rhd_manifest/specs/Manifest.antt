-- A manifest as its lists, and a table of manifests.
use Rattle.std.specs.Prelude.{◌<◌, List, [], ◌∷◌, ◌++◌, refl, slice_get, slice_set, unwrap_or}
use Rattle.std.specs.List.{AllByRecursion}
use Rattle.std.specs.Coded.{Coded, code_by, coded×, coded_ℕ, coded_list}
use Rattle.rhd_value.specs.Tree.{Bytes, Tree}
use Rattle.rhd_value.specs.Codes.{coded_entries}
use Rattle.rhd_func.specs.declared.access.ManifestId.{ManifestId}
use Rattle.rhd_func.specs.contracts.access.ManifestId as number
use Rattle.rhd_manifest.specs.Entry.{Entry, coded_entry}

pub record ManifestLists : Type 0 where
  pub entries : List Entry
  pub subs : List (Bytes × ManifestId)  -- sub-manifests by name, of lower numbers
  pub vars : List (Bytes × Tree)
  pub types : List (Bytes × Bytes)  -- custom types: the name of a type, and the name by which it is shown

-- a new manifest
abbrev pub no_lists : ManifestLists
no_lists = record { entries = []; subs = []; vars = []; types = [] }

-- the manifest of a number; of a number that isn't held, one without anything
abbrev pub manifest_at : List ManifestLists → ManifestId → ManifestLists
manifest_at table id = unwrap_or (slice_get table id.0) no_lists

-- the table with this manifest in the place of the one of a number
abbrev pub with_manifest : ManifestId → ManifestLists → List ManifestLists → List ManifestLists
with_manifest id m table = slice_set table id.0 m

abbrev pub with_entry : Entry → ManifestLists → ManifestLists
with_entry e m = record m { entries = m.entries ++ e ∷ [] }

abbrev pub with_sub : Bytes → ManifestId → ManifestLists → ManifestLists
with_sub name sub m = record m { subs = m.subs ++ (name, sub) ∷ [] }

abbrev pub with_var : Bytes → Tree → ManifestLists → ManifestLists
with_var name value m = record m { vars = m.vars ++ (name, value) ∷ [] }

abbrev pub with_type : Bytes → Bytes → ManifestLists → ManifestLists
with_type type_name display m = record m { types = m.types ++ (type_name, display) ∷ [] }

-- each sub-manifest of each manifest has a lower number
unfoldable pub AreLower : List ManifestLists → Type 0
AreLower table = (id : ManifestId) → AllByRecursion (λ s. s.1.0 < id.0) (manifest_at table id).subs

abbrev coded_bytes : Coded Bytes
coded_bytes = coded_list coded_ℕ

-- how the logic stores a manifest
abbrev pub coded_manifest : Coded ManifestLists
coded_manifest =
    code_by (List Entry × (List (Bytes × ManifestId) × (List (Bytes × Tree) × List (Bytes × Bytes))))
    (coded× (coded_list coded_entry) (coded× (coded_list (coded× coded_bytes number.the_row.coded)) (coded× coded_entries (coded_list (coded× coded_bytes coded_bytes)))))
    (λ m. (m.entries, (m.subs, (m.vars, m.types)))) (λ p. record { entries = p.0; subs = p.1.0; vars = p.1.1.0; types = p.1.1.1 }) (λ _. refl)
