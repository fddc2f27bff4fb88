-- The module of a manifest by parts.
use Rattle.std.proofs.Common.{◌≡◌, ℕ, zero, suc, ◌<◌, List, [], ◌∷◌, ◌++◌, refl, sym, ap, subst, ◌∙◌, arith, inl, inr}
use Rattle.std.specs.List.{flat_map, AllByRecursion, Contains}
use Rattle.std.specs.Map.{keys_of}
use Rattle.std.proofs.lemmas.Grind.{flat_map-append}
use Rattle.std.proofs.lemmas.List.Elements.{Contains-append_left, Contains-append_right, Contains-append_cases}
use Rattle.rhd_value.specs.Tree.{Bytes}
use Rattle.rhd_hash.specs.declared.mixer.Seeds.{Seeds}
use Rattle.rhd_func.specs.declared.access.ManifestId.{ManifestId}
use Rattle.rhd_decl.specs.declared.fault.DeclFault.{DeclFault}
use Rattle.rhd_decl.specs.declared.fault.DeclFault.TheVariants.{HashCollision, IndexerNotAllowed, NotCallable, UnknownNumber, OutOfMemory}
use Rattle.rhd_manifest.specs.Manifest.{ManifestLists, manifest_at, AreLower}
use Rattle.rhd_module.specs.Contents.{with_sub}
use Rattle.rhd_table.specs.Indexed.{NoneClash, IsClash}
use Rattle.rhd_module.specs.Index.{indexed}
use Rattle.rhd_module.specs.Made.{with_subs, own_made, made_by, made_to, made, IsMadeApart, MadeClash}
use Rattle.rhd_module.specs.Tree.{ModuleTree}
use Rattle.rhd_module.specs.Walk.{tree}

subs_alike : (f g : ManifestId → ModuleTree) (ss : List (Bytes × ManifestId)) (m : ModuleTree) → AllByRecursion (λ s. f s.1 ≡ g s.1) ss → with_subs f ss m ≡ with_subs g ss m
subs_alike f g [] m h = refl
subs_alike f g (s ∷ ss) m h = subs_alike f g ss (with_sub s.0 (f s.1) m) h.1 ∙ ap (λ t. with_subs g ss (with_sub s.0 t m)) h.0

pub subs_append : (f : ManifestId → ModuleTree) (xs ys : List (Bytes × ManifestId)) (m : ModuleTree) → with_subs f (xs ++ ys) m ≡ with_subs f ys (with_subs f xs m)
subs_append f [] ys m = refl
subs_append f (x ∷ xs) ys m = subs_append f xs ys (with_sub x.0 (f x.1) m)

pub subs_seeds : (f : ManifestId → ModuleTree) (ss : List (Bytes × ManifestId)) (m : ModuleTree) → (with_subs f ss m).own.seeds ≡ m.own.seeds
subs_seeds f [] m = refl
subs_seeds f (s ∷ ss) m = subs_seeds f ss (with_sub s.0 (f s.1) m)

each : {X : Type 0} (P Q : X → Type 0) (xs : List X) → ((x : X) → P x → Q x) → AllByRecursion P xs → AllByRecursion Q xs
each P Q [] h a = tt
each P Q (x ∷ xs) h a = (h x a.0, each P Q xs h a.1)

pub all_lower : (table : List ManifestLists) → AreLower table → (id : ManifestId) → AllByRecursion (λ s. s.1.0 < id.0) (manifest_at table id).subs
unfolding AreLower
all_lower table lower id = lower id

module _ (seeds : Seeds) (table : List ManifestLists) (lower : AreLower table) where
  -- any two depths above a number reach the same
  deep : (d e : ℕ) (id : ManifestId) → id.0 < d → id.0 < e → made_to d seeds table id ≡ made_to e seeds table id
  unfolding AreLower
  deep zero e id p q = absurd (omega (arith, p))
  deep (suc d) zero id p q = absurd (omega (arith, q))
  deep (suc d) (suc e) id p q =
      ap indexed
      (subs_alike (made_to d seeds table) (made_to e seeds table) (manifest_at table id).subs (own_made seeds table id)
      (each (λ s. s.1.0 < id.0) (λ s. made_to d seeds table s.1 ≡ made_to e seeds table s.1) (manifest_at table id).subs
      (λ s h. deep d e s.1 (omega (arith, h, p)) (omega (arith, h, q))) (lower id)))

  pub made-is : (id : ManifestId) → made seeds table id ≡ made_by (made seeds table) seeds table id
  unfolding AreLower
  made-is id =
      ap indexed
      (subs_alike (made_to id.0 seeds table) (made seeds table) (manifest_at table id).subs (own_made seeds table id)
      (each (λ s. s.1.0 < id.0) (λ s. made_to id.0 seeds table s.1 ≡ made seeds table s.1) (manifest_at table id).subs
      (λ s h. deep id.0 (suc s.1.0) s.1 h (omega arith)) (lower id)))

pub contains_flat : {X A : Type 0} (f : X → List A) (front later xs : List X) (x : X) (a : A) → xs ≡ front ++ x ∷ later → Contains (f x) a → Contains (flat_map f xs) a
contains_flat {X} {A} f front later xs x a is h =
    let P : List A → Type 0 = λ ys. Contains ys a in
    subst P (sym (ap (flat_map f) is ∙ flat_map-append f front (x ∷ later))) (Contains-append_right (flat_map f front) (flat_map f (x ∷ later)) a (Contains-append_left (f x) (flat_map f later) a h))

-- a clash in one of some modules is one in more of them
pub made_among : (seeds : Seeds) (table : List ManifestLists) (ids more : List ManifestId) (fault : DeclFault) → ((i : ManifestId) → Contains ids i → Contains more i) → MadeClash seeds table ids fault → MadeClash seeds table more fault
made_among seeds table ids more (HashCollision held other) within c = (c.0, within c.0 c.1, c.2)
made_among seeds table ids more (IndexerNotAllowed key) within c = c
made_among seeds table ids more NotCallable within c = c
made_among seeds table ids more (UnknownNumber n m) within c = c
made_among seeds table ids more OutOfMemory within c = tt

-- and so is one in the last of them
pub made_here : (seeds : Seeds) (table : List ManifestLists) (ids : List ManifestId) (id : ManifestId) (m : ModuleTree) (fault : DeclFault) → indexed m ≡ made seeds table id → m.own.seeds ≡ seeds → IsClash m.own.seeds (keys_of (tree m)) fault → MadeClash seeds table (id ∷ ids) fault
made_here seeds table ids id m (HashCollision held other) whole same c =
    let P : Seeds × ModuleTree → Type 0 = λ t. IsClash t.0 (keys_of (tree t.1)) (HashCollision held other) in
    (id, (0, omega arith, refl), subst P (λ i. (same i, whole i)) c)
made_here seeds table ids id m (IndexerNotAllowed key) whole same c = c
made_here seeds table ids id m NotCallable whole same c = c
made_here seeds table ids id m (UnknownNumber n k) whole same c = c
made_here seeds table ids id m OutOfMemory whole same c = tt

pub apart_here : (seeds : Seeds) (table : List ManifestLists) (ids : List ManifestId) (id : ManifestId) (m : ModuleTree) → indexed m ≡ made seeds table id → m.own.seeds ≡ seeds → NoneClash m.own.seeds (keys_of (tree m))
    → ((i : ManifestId) → Contains ids i → IsMadeApart seeds table i) → (i : ManifestId) → Contains (id ∷ ids) i → IsMadeApart seeds table i
apart_here seeds table ids id m whole same apart others i there =
    let P : Seeds × ModuleTree → Type 0 = λ t. NoneClash t.0 (keys_of (tree t.1)) in
    let here : IsMadeApart seeds table id = subst P (λ k. (same k, whole k)) apart in
    elim (Contains-append_cases (id ∷ []) ids i there) [
      | inl one ↦ subst (λ (j : ManifestId). IsMadeApart seeds table j) (only id i one) here
      | inr more ↦ others i more
    ]
  where
    only : (x y : ManifestId) → Contains (x ∷ []) y → x ≡ y
    only x y (zero, within, is) = is
    only x y (suc k, within, is) = absurd (omega (arith, within))
