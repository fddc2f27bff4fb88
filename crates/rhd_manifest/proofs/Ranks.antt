-- The entries of a manifest by parts, from the highest precedence down and from the lowest up.
use Rattle.std.proofs.Common.{◌≡◌, ℕ, zero, suc, ◌<◌, Bool, true, false, cond, List, [], ◌∷◌, ◌++◌, reverse, length, Option}
use Rattle.std.proofs.Common.{None, Some, is_some, refl, sym, ap, subst, ◌∙◌, arith, append-nil, append_assoc, get_or, slice_get, unwrap_or, true≢false, Bor}
use Rattle.std.proofs.lemmas.List.{reverse-append}
use Rattle.std.proofs.lemmas.Grind.{flat_map-append}
use Rattle.std.specs.List.{flat_map, find, AllByRecursion}
use Rattle.std.specs.Option.{option_copied}
use Rattle.rhd_func.specs.declared.access.ManifestId.{ManifestId}
use Rattle.rhd_manifest.specs.Entry.{Entry}
use Rattle.rhd_manifest.specs.Manifest.{ManifestLists, manifest_at, no_lists, AreLower}
use Rattle.rhd_manifest.specs.Rank.{rank_by, flattened_to, flattened, rank_of, walk_to, walk, over_walk}

-- the last of a list comes first
pub flat_last : {X A : Type 0} (f : X → List A) (xs : List X) (x : X) → flat_map f (reverse (xs ++ x ∷ [])) ≡ f x ++ flat_map f (reverse xs)
flat_last f xs x = ap (flat_map f) (reverse-append xs (x ∷ []))

-- the first of a list comes last
pub flat_first : {X A : Type 0} (f : X → List A) (x : X) (xs : List X) → flat_map f (reverse (x ∷ xs)) ≡ flat_map f (reverse xs) ++ f x
flat_first f x xs = ap (flat_map f) (reverse-append (x ∷ []) xs) ∙ flat_map-append f (reverse xs) (x ∷ []) ∙ ap (λ t. flat_map f (reverse xs) ++ t) (append-nil (f x))

flat_same : {X A : Type 0} (f g : X → List A) (xs : List X) → AllByRecursion (λ x. f x ≡ g x) xs → flat_map f (reverse xs) ≡ flat_map g (reverse xs)
flat_same f g [] h = refl
flat_same f g (x ∷ xs) h = flat_first f x xs ∙ (λ i. flat_same f g xs h.1 i ++ h.0 i) ∙ sym (flat_first g x xs)

each : {X : Type 0} (P Q : X → Type 0) (xs : List X) → ((x : X) → P x → Q x) → AllByRecursion P xs → AllByRecursion Q xs
each P Q [] h a = tt
each P Q (x ∷ xs) h a = (h x a.0, each P Q xs h a.1)

-- any two depths above a number reach the same
deep : (d e : ℕ) (table : List ManifestLists) → AreLower table → (id : ManifestId) → id.0 < d → id.0 < e → flattened_to d table id ≡ flattened_to e table id
unfolding AreLower
deep zero e table lower id p q = absurd (omega (arith, p))
deep (suc d) zero table lower id p q = absurd (omega (arith, q))
deep (suc d) (suc e) table lower id p q =
    ap (λ t. t ++ reverse (manifest_at table id).entries)
    (flat_same (λ s. flattened_to d table s.1) (λ s. flattened_to e table s.1) (manifest_at table id).subs
    (each (λ s. s.1.0 < id.0) (λ s. flattened_to d table s.1 ≡ flattened_to e table s.1) (manifest_at table id).subs
    (λ s h. deep d e table lower s.1 (omega (arith, h, p)) (omega (arith, h, q))) (lower id)))

-- a flattened manifest lists what its sub-manifests list, flattened, and its own entries
pub flattened-is : (table : List ManifestLists) → AreLower table → (id : ManifestId) → flattened table id ≡ rank_of table (manifest_at table id) true
unfolding AreLower
flattened-is table lower id =
    ap (λ t. t ++ reverse (manifest_at table id).entries)
    (flat_same (λ s. flattened_to id.0 table s.1) (λ s. flattened table s.1) (manifest_at table id).subs
    (each (λ s. s.1.0 < id.0) (λ s. flattened_to id.0 table s.1 ≡ flattened table s.1) (manifest_at table id).subs
    (λ s h. deep id.0 (suc s.1.0) table lower s.1 h (omega arith)) (lower id)))

-- the manifest of a number that is held
pub at : (table : List ManifestLists) (id : ManifestId) (m : ManifestLists) → Some m ≡ slice_get table id.0 → manifest_at table id ≡ m
at table id m e = ap (λ o. unwrap_or o no_lists) (sym e)

-- The same of the walk from a manifest down.
flat_alike : {X A : Type 0} (f g : X → List A) (xs : List X) → AllByRecursion (λ x. f x ≡ g x) xs → flat_map f xs ≡ flat_map g xs
flat_alike f g [] h = refl
flat_alike f g (x ∷ xs) h = (λ i. h.0 i ++ flat_alike f g xs h.1 i)

walk_deep : (d e : ℕ) (table : List ManifestLists) → AreLower table → (id : ManifestId) → id.0 < d → id.0 < e → walk_to d table id ≡ walk_to e table id
unfolding AreLower
walk_deep zero e table lower id p q = absurd (omega (arith, p))
walk_deep (suc d) zero table lower id p q = absurd (omega (arith, q))
walk_deep (suc d) (suc e) table lower id p q =
    ap (λ t. id ∷ t)
    (flat_alike (λ s. walk_to d table s.1) (λ s. walk_to e table s.1) (manifest_at table id).subs
    (each (λ s. s.1.0 < id.0) (λ s. walk_to d table s.1 ≡ walk_to e table s.1) (manifest_at table id).subs
    (λ s h. walk_deep d e table lower s.1 (omega (arith, h, p)) (omega (arith, h, q))) (lower id)))

pub walk-is : (table : List ManifestLists) → AreLower table → (id : ManifestId) → walk table id ≡ id ∷ flat_map (λ s. walk table s.1) (manifest_at table id).subs
unfolding AreLower
walk-is table lower id =
    ap (λ t. id ∷ t)
    (flat_alike (λ s. walk_to id.0 table s.1) (λ s. walk table s.1) (manifest_at table id).subs
    (each (λ s. s.1.0 < id.0) (λ s. walk_to id.0 table s.1 ≡ walk table s.1) (manifest_at table id).subs
    (λ s h. walk_deep id.0 (suc s.1.0) table lower s.1 h (omega arith)) (lower id)))

flat_flat : {X Y A : Type 0} (f : Y → List A) (g : X → List Y) (xs : List X) → flat_map f (flat_map g xs) ≡ flat_map (λ x. flat_map f (g x)) xs
flat_flat f g [] = refl
flat_flat f g (x ∷ xs) = flat_map-append f (g x) (flat_map g xs) ∙ ap (λ t. flat_map f (g x) ++ t) (flat_flat f g xs)

-- its own, and then those of its sub-manifests in order
pub over_walk-is : {A : Type 0} (f : ManifestLists → List A) (table : List ManifestLists) → AreLower table → (id : ManifestId) (m : ManifestLists) → Some m ≡ slice_get table id.0 → over_walk f table id ≡ f m ++ flat_map (λ s. over_walk f table s.1) m.subs
over_walk-is f table lower id m e =
    ap (flat_map (λ i. f (manifest_at table i))) (walk-is table lower id)
    ∙ (λ k. f (at table id m e k) ++ flat_flat (λ i. f (manifest_at table i)) (λ s. walk table s.1) (at table id m e k).subs k)

reverse_flat : {X A : Type 0} (f : X → List A) (xs : List X) → reverse (flat_map f (reverse xs)) ≡ flat_map (λ x. reverse (f x)) xs
reverse_flat f [] = refl
reverse_flat f (x ∷ xs) = ap reverse (flat_first f x xs) ∙ reverse-append (flat_map f (reverse xs)) (f x) ∙ ap (λ t. reverse (f x) ++ t) (reverse_flat f xs)

twice : {A : Type 0} (xs : List A) → reverse (reverse xs) ≡ xs
twice [] = refl
twice (x ∷ xs) = ap reverse (reverse-append (x ∷ []) xs) ∙ reverse-append (reverse xs) (x ∷ []) ∙ ap (λ t. x ∷ t) (twice xs)

-- from the lowest precedence up: its own entries in order, then those of its sub-manifests in order
pub rising : (f : ManifestId → List Entry) (m : ManifestLists) → reverse (rank_by f m true) ≡ m.entries ++ flat_map (λ s. reverse (f s.1)) m.subs
rising f m = reverse-append (flat_map (λ s. f s.1) (reverse m.subs)) (reverse m.entries) ∙ (λ i. twice m.entries i ++ reverse_flat (λ s. f s.1) m.subs i)

pub rising_own : (f : ManifestId → List Entry) (m : ManifestLists) → reverse (rank_by f m false) ≡ m.entries
rising_own f m = twice m.entries

-- a sub-manifest's number is lower
pub lower_than : (table : List ManifestLists) → AreLower table → (id : ManifestId) (m : ManifestLists) → Some m ≡ slice_get table id.0 → AllByRecursion (λ s. s.1.0 < id.0) m.subs
unfolding AreLower
lower_than table lower id m e = let P : ManifestLists → Type 0 = λ k. AllByRecursion (λ s. s.1.0 < id.0) k.subs in subst P (at table id m e) (lower id)

pub all_at : {X : Type 0} (P : X → Type 0) (front : List X) (x : X) (others : List X) → AllByRecursion P (front ++ x ∷ others) → P x
all_at P [] x others a = a.0
all_at P (y ∷ front) x others a = all_at P front x others a.1

-- What is found first in two lists.
pub find_found : {A : Type 0} (t : A → Bool) (xs ys : List A) (o : Option A) → o ≡ find t xs → is_some o ≡ true → o ≡ find t (xs ++ ys)
find_found t [] ys o e h = absurd (true≢false (sym h ∙ ap is_some e))
find_found t (x ∷ xs) ys o e h = by (t x) (find_found t xs ys o) e
  where
    by : (b : Bool) → (o ≡ find t xs → is_some o ≡ true → o ≡ find t (xs ++ ys)) → o ≡ cond b (Some x) (find t xs) → o ≡ cond b (Some x) (find t (xs ++ ys))
    by true ih e = e
    by false ih e = ih e h

pub find_past : {A : Type 0} (t : A → Bool) (xs ys : List A) (o : Option A) → o ≡ find t xs → is_some o ≡ false → find t (xs ++ ys) ≡ find t ys
find_past t [] ys o e h = refl
find_past t (x ∷ xs) ys o e h = by (t x) (find_past t xs ys o) e
  where
    by : (b : Bool) → (o ≡ find t xs → is_some o ≡ false → find t (xs ++ ys) ≡ find t ys) → o ≡ cond b (Some x) (find t xs) → cond b (Some x) (find t (xs ++ ys)) ≡ find t ys
    by true ih e = absurd (true≢false (sym (ap is_some e) ∙ h))
    by false ih e = ih e h

-- what was found is there, and so is its copy
pub copied_is : {A : Type 0} (o : Option (Bor A)) (b : Bool) → b ≡ is_some o → is_some (option_copied o) ≡ b
copied_is None b e = sym e
copied_is (Some x) b e = sym e

-- the parts of a flattened manifest that is held
pub of_held : (table : List ManifestLists) → AreLower table → (id : ManifestId) (m : ManifestLists) → Some m ≡ slice_get table id.0 → flattened table id ≡ rank_of table m true
of_held table lower id m e = flattened-is table lower id ∙ ap (λ k. rank_of table k true) (at table id m e)

pub rising_held : (table : List ManifestLists) → AreLower table → (id : ManifestId) (m : ManifestLists) → Some m ≡ slice_get table id.0 → reverse (flattened table id) ≡ m.entries ++ flat_map (λ s. reverse (flattened table s.1)) m.subs
rising_held table lower id m e = ap reverse (of_held table lower id m e) ∙ rising (flattened table) m

-- the part of the last of a list, and what comes after it
pub last_part : {X A : Type 0} (f : X → List A) (xs front : List X) (x : X) (others : List A) → xs ≡ front ++ x ∷ [] → flat_map f (reverse xs) ++ others ≡ f x ++ (flat_map f (reverse front) ++ others)
last_part f xs front x others e = ap (λ t. flat_map f (reverse t) ++ others) e ∙ ap (λ t. t ++ others) (flat_last f front x) ∙ append_assoc (f x) (flat_map f (reverse front)) others

pub all_front : {X : Type 0} (P : X → Type 0) (xs front : List X) (x : X) → xs ≡ front ++ x ∷ [] → AllByRecursion P xs → AllByRecursion P front
all_front {X} P xs front x e a = by front (let Q : _ → Type 0 = λ ys. AllByRecursion P ys in subst Q e a)
  where
    by : (ys : List X) → AllByRecursion P (ys ++ x ∷ []) → AllByRecursion P ys
    by [] b = tt
    by (y ∷ ys) b = (b.0, by ys b.1)

pub all_end : {X : Type 0} (P : X → Type 0) (xs front : List X) (x : X) → xs ≡ front ++ x ∷ [] → AllByRecursion P xs → P x
all_end P xs front x e a = all_at P front x [] (let Q : _ → Type 0 = λ ys. AllByRecursion P ys in subst Q e a)

pub all_index : {X : Type 0} (P : X → Type 0) (xs : List X) (i : ℕ) (d : X) → AllByRecursion P xs → i < length xs → P (get_or xs i d)
all_index P [] i d a h = absurd (omega (arith, h))
all_index P (x ∷ xs) zero d a h = a.0
all_index P (x ∷ xs) (suc i) d a h = all_index P xs i d a.1 (omega (arith, h))

-- nothing is left of an empty list
pub no_more : {X A : Type 0} (f : X → List A) (xs : List X) (others : List A) → length xs ≡ 0 → flat_map f (reverse xs) ++ others ≡ others
no_more f [] others e = refl
no_more f (x ∷ xs) others e = absurd (omega (arith, e))
