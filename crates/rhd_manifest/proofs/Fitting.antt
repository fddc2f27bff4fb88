-- Which natives a table fits after one of its manifests has changed.
use Rattle.std.proofs.Common.{◌≡◌, ℕ, zero, suc, ◌<◌, ◌&&◌, Bool, true, false, List, [], ◌∷◌, ◌++◌, length, Option, None, Some, refl, ap, ◌∙◌, slice_get, slice_set, unwrap_or, arith}
use Rattle.std.specs.Cmp.{booleans_Decides}
use Rattle.std.specs.List.{list_all}
use Rattle.std.specs.Option.{option_map_or}
use Rattle.rhd_value.specs.Tree.{Bytes}
use Rattle.rhd_value.specs.Same.{types_eq-Decides}
use Rattle.rhd_value.specs.declared.tag.FnId.{FnId}
use Rattle.rhd_func.specs.Natives.{NativeInfo}
use Rattle.rhd_func.specs.declared.access.FnNamespace.{FnNamespace}
use Rattle.rhd_manifest.specs.Entry.{entry_of}
use Rattle.rhd_manifest.specs.Fits.{native_fits, entry_fits, manifest_fits, fits}
use Rattle.rhd_manifest.specs.Manifest.{ManifestLists, no_lists, with_entry}

same_and : (a b : Bool) → a ≡ b → (c d : Bool) → c ≡ d → (a && c) ≡ (b && d)
same_and a b e c d f = λ i. e i && f i

-- the same test of all, where the new one passes it as the old one did
pub all_set : {X : Type 0} (p : X → Bool) (xs : List X) (n : ℕ) (v none : X) → n < length xs → p v ≡ p (unwrap_or (slice_get xs n) none) → list_all p (slice_set xs n v) ≡ list_all p xs
all_set p [] n v none h e = refl
all_set p (x ∷ xs) zero v none h e = ap (λ b. b && list_all p xs) e
all_set p (x ∷ xs) (suc n) v none h e = ap (λ b. p x && b) (all_set p xs n v none (omega (arith, h)) e)

both : (a b : Bool) → (a && b) ≡ true → (a ≡ true) × (b ≡ true)
both true b h = (refl, h)
both false b h = absurd cc

pub all_more : {X : Type 0} (p : X → Bool) (xs : List X) (n : ℕ) (v : X) → list_all p xs ≡ true → p v ≡ true → list_all p (slice_set xs n v) ≡ true
all_more p [] n v h e = refl
all_more p (x ∷ xs) zero v h e = same_and (p v) true e (list_all p xs) true (both (p x) (list_all p xs) h).1
all_more p (x ∷ xs) (suc n) v h e = same_and (p x) true (both (p x) (list_all p xs) h).0 _ true (all_more p xs n v (both (p x) (list_all p xs) h).1 e)

pub all_last : {X : Type 0} (p : X → Bool) (xs : List X) (v : X) → p v ≡ true → list_all p (xs ++ v ∷ []) ≡ list_all p xs
all_last p [] v e = ap (λ b. b && true) e
all_last p (x ∷ xs) v e = ap (λ b. p x && b) (all_last p xs v e)

pub all_at : {X : Type 0} (p : X → Bool) (xs : List X) (n : ℕ) (none : X) → list_all p xs ≡ true → p none ≡ true → p (unwrap_or (slice_get xs n) none) ≡ true
all_at p [] n none h e = e
all_at p (x ∷ xs) zero none h e = (both (p x) (list_all p xs) h).0
all_at p (x ∷ xs) (suc n) none h e = all_at p xs n none (both (p x) (list_all p xs) h).1 e

-- an entry for a native that is held fits
fits_itself : (n : NativeInfo) (name : Bytes) (namespace : FnNamespace) (func : FnId) → native_fits n (record { name = name; namespace = namespace; func = func; param_types = n.types; is_method = n.is_method }) ≡ true
fits_itself n name namespace func = same_and _ true ((types_eq-Decides n.types n.types).1 refl) _ true ((booleans_Decides n.is_method n.is_method).1 refl)

-- and so does the entry of one in a list
pub entry_fits-of : (natives : List NativeInfo) (name : Bytes) (namespace : FnNamespace) (func : FnId) (o : Option NativeInfo) → slice_get natives func.0 ≡ o
    → func.0 < length natives → entry_fits natives (entry_of natives name namespace func) ≡ true
entry_fits-of natives name namespace func None e h = absurd (held natives func.0 h e)
  where
    held : (xs : List NativeInfo) (n : ℕ) → n < length xs → slice_get xs n ≡ None → ⊥
    held [] n h e = omega (arith, h)
    held (x ∷ xs) zero h e = cc
    held (x ∷ xs) (suc n) h e = held xs n (omega (arith, h)) e
entry_fits-of natives name namespace func (Some n) e h =
    let P : Option NativeInfo → Bool =
    λ o. option_map_or (λ k. native_fits k (record { name = name; namespace = namespace; func = func; param_types = option_map_or (λ m. m.types) o []; is_method = option_map_or (λ m. m.is_method) o false })) o false in
    ap P e ∙ fits_itself n name namespace func

-- a table that fits still fits with an entry for a native that is held
pub fits_entry : (natives : List NativeInfo) (table : List ManifestLists) (n : ℕ) (name : Bytes) (namespace : FnNamespace) (func : FnId) → func.0 < length natives
    → fits natives table ≡ true → fits natives (slice_set table n (with_entry (entry_of natives name namespace func) (unwrap_or (slice_get table n) no_lists))) ≡ true
fits_entry natives table n name namespace func held h =
    all_more (manifest_fits natives) table n _ h
    (all_last (entry_fits natives) (unwrap_or (slice_get table n) no_lists).entries (entry_of natives name namespace func) (entry_fits-of natives name namespace func _ refl held)
    ∙ all_at (manifest_fits natives) table n no_lists h refl)
