-- The modules of manifests name held natives alone, and so do modules to which manifests are added.
use Rattle.std.proofs.Common.{◌≡◌, ℕ, Bool, true, false, ◌&&◌, List, [], ◌∷◌, ◌++◌, length, refl, ap, subst, ◌∙◌}
use Rattle.std.specs.Prelude.{zero, suc, nat_lt, reverse, Option, None, Some, slice_get, unwrap_or}
use Rattle.std.specs.List.{list_all, flat_map}
use Rattle.std.specs.Option.{option_map_or}
use Rattle.std.proofs.lemmas.Bool.{lt-ltb}
use Rattle.std.proofs.lemmas.Option.{slice_get_within}
use Rattle.std.proofs.lemmas.List.{reverse-append}
use Rattle.std.proofs.lemmas.List.Folds.{list_all-append}
use Rattle.rhd_value.specs.Tree.{Bytes}
use Rattle.rhd_hash.specs.declared.mixer.Seeds.{Seeds}
use Rattle.rhd_func.specs.declared.access.ManifestId.{ManifestId}
use Rattle.rhd_func.specs.declared.natives.Natives.{Natives}
use Rattle.rhd_func.specs.Infos.{infos_of}
use Rattle.rhd_func.specs.Natives.{NativeInfo}
use Rattle.rhd_manifest.specs.Entry.{Entry}
use Rattle.rhd_manifest.specs.Fits.{native_fits, entry_fits, manifest_fits, fits}
use Rattle.rhd_manifest.specs.Manifest.{ManifestLists, no_lists, manifest_at}
use Rattle.rhd_manifest.specs.Rank.{rank_by, flattened, flattened_to, rank}
use Rattle.rhd_module.specs.Made.{with_subs, own_made, made_to, made}
use Rattle.rhd_module.specs.Manifests.{combined}
use Rattle.rhd_module.specs.Contents.{with_sub}
use Rattle.rhd_module.specs.Tree.{ModuleTree}
use Rattle.rhd_layers.proofs.Bools.{both, parts}
use Rattle.rhd_engine.specs.Held.{own_held, below_held, names_held, table_held}
use Rattle.rhd_engine.proofs.HeldLaws.{listed_held, pairs_held, infos_count}
use Rattle.rhd_engine.proofs.HeldTrees.{sub_held}

-- Lists.

weaker : {A : Type 0} (p q : A → Bool) (xs : List A) → ((x : A) → p x ≡ true → q x ≡ true) → list_all p xs ≡ true → list_all q xs ≡ true
weaker p q [] step all = refl
weaker p q (x ∷ xs) step all =
    let h = parts (p x) (list_all p xs) all in both (q x) (list_all q xs) (step x h.0) (weaker p q xs step h.1)

all_append : {A : Type 0} (p : A → Bool) (xs ys : List A) → list_all p xs ≡ true → list_all p ys ≡ true → list_all p (xs ++ ys) ≡ true
all_append p xs ys h k = list_all-append p xs ys ∙ both (list_all p xs) (list_all p ys) h k

all_reverse : {A : Type 0} (p : A → Bool) (xs : List A) → list_all p xs ≡ true → list_all p (reverse xs) ≡ true
all_reverse p [] all = refl
all_reverse p (x ∷ xs) all =
    let h = parts (p x) (list_all p xs) all in ap (list_all p) (reverse-append (x ∷ []) xs) ∙ all_append p (reverse xs) (x ∷ []) (all_reverse p xs h.1) (both (p x) true h.0 refl)

all_flat : {A B : Type 0} (p : B → Bool) (f : A → List B) (xs : List A) → ((x : A) → list_all p (f x) ≡ true) → list_all p (flat_map f xs) ≡ true
all_flat p f [] each = refl
all_flat p f (x ∷ xs) each = all_append p (f x) (flat_map f xs) (each x) (all_flat p f xs each)

-- Entries that fit are held.

entry_held : (natives : List NativeInfo) (e : Entry) → entry_fits natives e ≡ true → nat_lt e.func.0 (length natives) ≡ true
entry_held natives e fit = by (slice_get natives e.func.0) refl fit
  where
    by : (native : Option NativeInfo) → slice_get natives e.func.0 ≡ native → option_map_or (λ n. native_fits n e) native false ≡ true → nat_lt e.func.0 (length natives) ≡ true
    by None is fit = absurd cc
    by (Some n) is fit = lt-ltb e.func.0 (length natives) (slice_get_within natives e.func.0 n is)

fitting_held : (natives : List NativeInfo) (table : List ManifestLists) → fits natives table ≡ true → table_held (length natives) table ≡ true
fitting_held natives table fit =
    weaker (manifest_fits natives) (λ m. listed_held (length natives) m.entries) table (λ m h. weaker (entry_fits natives) (λ e. nat_lt e.func.0 (length natives)) m.entries (entry_held natives) h) fit

-- a table that fits names held natives alone
pub fits_held : {X : Type 0} {F : X → Type 0} (info : (x : X) × F x → NativeInfo) (natives : Natives X F) (table : List ManifestLists) → fits (infos_of info natives) table ≡ true → table_held (length natives.items.items) table ≡ true
fits_held info natives table fit = subst (λ (n : ℕ). table_held n table ≡ true) (infos_count info natives) (fitting_held (infos_of info natives) table fit)

-- What the manifest of a number lists.

entries_held : (n : ℕ) (table : List ManifestLists) (i : ℕ) → table_held n table ≡ true → listed_held n (unwrap_or (slice_get table i) no_lists).entries ≡ true
entries_held n [] i all = refl
entries_held n (m ∷ table) zero all = (parts (listed_held n m.entries) (table_held n table) all).0
entries_held n (m ∷ table) (suc i) all = entries_held n table i (parts (listed_held n m.entries) (table_held n table) all).1

module _ (n : ℕ) (table : List ManifestLists) (all : table_held n table ≡ true) where
  ranked_held : (below : ManifestId → List Entry) → ((id : ManifestId) → listed_held n (below id) ≡ true) → (m : ManifestLists) → listed_held n m.entries ≡ true → (flat : Bool) → listed_held n (rank_by below m flat) ≡ true
  ranked_held below each m own true =
      let test = λ (e : Entry). nat_lt e.func.0 n in
      all_append test (flat_map (λ s. below s.1) (reverse m.subs)) (reverse m.entries) (all_flat test (λ s. below s.1) (reverse m.subs) (λ s. each s.1)) (all_reverse test m.entries own)
  ranked_held below each m own false = all_reverse (λ (e : Entry). nat_lt e.func.0 n) m.entries own

  flattened_held : (depth : ℕ) (id : ManifestId) → listed_held n (flattened_to depth table id) ≡ true
  flattened_held zero id = refl
  flattened_held (suc depth) id = ranked_held (flattened_to depth table) (flattened_held depth) (manifest_at table id) (entries_held n table id.0 all) true

  rank_held : (id : ManifestId) (flat : Bool) → listed_held n (rank table id flat) ≡ true
  rank_held id flat = ranked_held (flattened table) (λ sub. flattened_held (suc sub.0) sub) (manifest_at table id) (entries_held n table id.0 all) flat

  -- a held module to which a manifest is added, with its variables and custom types
  pub combined_held : (id : ManifestId) (m : ModuleTree) → names_held n m ≡ true → names_held n (combined table id m) ≡ true
  combined_held id m held =
      let p = parts (own_held n m.own) (below_held n m.subs) held in
      let q = parts (pairs_held n m.own.eager) (listed_held n m.own.listed) p.0 in
      let listed = all_append (λ (e : Entry). nat_lt e.func.0 n) (rank table id true) m.own.listed (rank_held id true) q.1 in
      both (pairs_held n m.own.eager && listed_held n (rank table id true ++ m.own.listed)) (below_held n m.subs) (both (pairs_held n m.own.eager) (listed_held n (rank table id true ++ m.own.listed)) q.0 listed) p.1

  own_made_held : (seeds : Seeds) (id : ManifestId) → names_held n (own_made seeds table id) ≡ true
  own_made_held seeds id =
      let listed = all_append (λ (e : Entry). nat_lt e.func.0 n) (rank table id false) [] (rank_held id false) refl in
      both (listed_held n (rank table id false ++ [])) true listed refl

  with_subs_held : (module_of : ManifestId → ModuleTree) → ((id : ManifestId) → names_held n (module_of id) ≡ true) → (subs : List (Bytes × ManifestId)) (m : ModuleTree) → names_held n m ≡ true
      → names_held n (with_subs module_of subs m) ≡ true
  with_subs_held module_of each [] m held = held
  with_subs_held module_of each (s ∷ subs) m held = with_subs_held module_of each subs (with_sub s.0 (module_of s.1) m) (sub_held n s.0 (module_of s.1) m (each s.1) held)

  made_to_held : (seeds : Seeds) (depth : ℕ) (id : ManifestId) → names_held n (made_to depth seeds table id) ≡ true
  made_to_held seeds zero id = refl
  made_to_held seeds (suc depth) id = with_subs_held (made_to depth seeds table) (made_to_held seeds depth) (manifest_at table id).subs (own_made seeds table id) (own_made_held seeds id)

  -- the module of a manifest
  pub made_held : (seeds : Seeds) (id : ManifestId) → names_held n (made seeds table id) ≡ true
  made_held seeds id = made_to_held seeds (suc id.0) id
