-- A table after one of its manifests has changed.
use Rattle.std.proofs.Common.{◌≡◌, ℕ, zero, suc, ◌<◌, ◌⊎◌, List, [], ◌∷◌, ◌++◌, Option, Some, refl, sym, ap, subst, inl, inr, slice_get, slice_set, unwrap_or}
use Rattle.std.specs.List.{AllByRecursion}
use Rattle.rhd_func.specs.declared.access.ManifestId.{ManifestId}
use Rattle.rhd_manifest.specs.Manifest.{ManifestLists, manifest_at, no_lists, AreLower}

set_get : (xs : List ManifestLists) (n i : ℕ) (v : ManifestLists) → (slice_get (slice_set xs n v) i ≡ slice_get xs i) ⊎ ((i ≡ n) × (slice_get (slice_set xs n v) i ≡ Some v))
set_get [] n i v = inl refl
set_get (x ∷ xs) zero zero v = inr (refl, refl)
set_get (x ∷ xs) zero (suc i) v = inl refl
set_get (x ∷ xs) (suc n) zero v = inl refl
set_get (x ∷ xs) (suc n) (suc i) v = by (set_get xs n i v)
  where
    by : (slice_get (slice_set xs n v) i ≡ slice_get xs i) ⊎ ((i ≡ n) × (slice_get (slice_set xs n v) i ≡ Some v))
        → (slice_get (slice_set (x ∷ xs) (suc n) v) (suc i) ≡ slice_get (x ∷ xs) (suc i)) ⊎ ((suc i ≡ suc n) × (slice_get (slice_set (x ∷ xs) (suc n) v) (suc i) ≡ Some v))
    by (inl e) = inl e
    by (inr e) = inr (ap suc e.0, e.1)

-- numbers stay lower where those of the new manifest are
pub lower_set : (table : List ManifestLists) (n : ℕ) (m : ManifestLists) → AreLower table → AllByRecursion (λ s. s.1.0 < n) m.subs → AreLower (slice_set table n m)
unfolding AreLower
lower_set table n m lower new = λ id. by id (set_get table n id.0 m)
  where
    by : (id : ManifestId) → (slice_get (slice_set table n m) id.0 ≡ slice_get table id.0) ⊎ ((id.0 ≡ n) × (slice_get (slice_set table n m) id.0 ≡ Some m)) → AllByRecursion (λ s. s.1.0 < id.0) (manifest_at (slice_set table n m) id).subs
    by id (inl e) = let P : Option ManifestLists → Type 0 = λ o. AllByRecursion (λ s. s.1.0 < id.0) (unwrap_or o no_lists).subs in subst P (sym e) (lower id)
    by id (inr e) =
        let P : Option ManifestLists → Type 0 = λ o. AllByRecursion (λ s. s.1.0 < id.0) (unwrap_or o no_lists).subs in
        let Q : ℕ → Type 0 = λ k. AllByRecursion (λ s. s.1.0 < k) m.subs in
        subst P (sym e.1) (subst Q (sym e.0) new)

last_get : (xs : List ManifestLists) (v : ManifestLists) (i : ℕ) → (slice_get (xs ++ v ∷ []) i ≡ slice_get xs i) ⊎ (slice_get (xs ++ v ∷ []) i ≡ Some v)
last_get [] v zero = inr refl
last_get [] v (suc i) = inl refl
last_get (x ∷ xs) v zero = inl refl
last_get (x ∷ xs) v (suc i) = last_get xs v i

-- numbers stay lower with a manifest more that has no sub-manifests
pub lower_push : (table : List ManifestLists) → AreLower table → AreLower (table ++ no_lists ∷ [])
unfolding AreLower
lower_push table lower = λ id. by id (last_get table no_lists id.0)
  where
    by : (id : ManifestId) → (slice_get (table ++ no_lists ∷ []) id.0 ≡ slice_get table id.0) ⊎ (slice_get (table ++ no_lists ∷ []) id.0 ≡ Some no_lists) → AllByRecursion (λ s. s.1.0 < id.0) (manifest_at (table ++ no_lists ∷ []) id).subs
    by id (inl e) = let P : Option ManifestLists → Type 0 = λ o. AllByRecursion (λ s. s.1.0 < id.0) (unwrap_or o no_lists).subs in subst P (sym e) (lower id)
    by id (inr e) = let P : Option ManifestLists → Type 0 = λ o. AllByRecursion (λ s. s.1.0 < id.0) (unwrap_or o no_lists).subs in subst P (sym e) tt

-- a table without manifests
pub lower_new : AreLower []
unfolding AreLower
lower_new = λ id. tt

pub all_last : {X : Type 0} (P : X → Type 0) (xs : List X) (x : X) → AllByRecursion P xs → P x → AllByRecursion P (xs ++ x ∷ [])
all_last P [] x a h = (h, tt)
all_last P (y ∷ xs) x a h = (a.0, all_last P xs x a.1 h)
