-- What an index has under each hash after a change under one.
use Rattle.std.proofs.Common.{◌≡◌, ℕ, Bool, true, false, cond, nat_eq, List, [], ◌∷◌, ◌++◌, Option, Some, Result, Ok, Err, refl, sym, ap, append-nil, eq-eqb, eqb-true, true≢false, ◌∙◌}
use Rattle.std.specs.Option.{option_map_or}
use Rattle.std.specs.Result.{OnErr}
use Rattle.std.specs.List.{AllZip}
use Rattle.std.specs.Map.{lookup, update}

-- two numbers that differ, the other way round
pub turned : (a b : ℕ) → nat_eq b a ≡ false → nat_eq a b ≡ false
turned a b e = by (nat_eq a b) refl
  where
    by : (d : Bool) → nat_eq a b ≡ d → nat_eq a b ≡ false
    by true f = absurd (true≢false (sym (eq-eqb b a (sym (eqb-true a b f))) ∙ e))
    by false f = f

module _ {X : Type 0} (items : X → List ℕ) (m n : ℕ → Option X) (hash : ℕ) (w : X) (changes : (other : ℕ) → n other ≡ update nat_eq m hash (Some w) other) where
  one_more_step : (place : ℕ) → items w ≡ option_map_or items (m hash) [] ++ place ∷ [] → (other : ℕ) (same : Bool) → nat_eq other hash ≡ same
      → option_map_or items (n other) [] ≡ option_map_or items (m other) [] ++ cond same (place ∷ []) []
  one_more_step place is other true s =
      let same : other ≡ hash = eqb-true other hash s in
      let back : nat_eq hash other ≡ true = eq-eqb hash other (sym same) in
      let new : n other ≡ Some w = changes other ∙ ap (λ b. cond b (Some w) (m other)) back in
      ap (λ o. option_map_or items o []) new ∙ is ∙ ap (λ t. option_map_or items (m t) [] ++ place ∷ []) (sym same)
  one_more_step place is other false s =
      let new : n other ≡ m other = changes other ∙ ap (λ b. cond b (Some w) (m other)) (turned hash other s) in
      ap (λ o. option_map_or items o []) new ∙ sym (append-nil (option_map_or items (m other) []))

  -- a hash whose list gets one more place
  pub one_more : (place : ℕ) → items w ≡ option_map_or items (m hash) [] ++ place ∷ [] → (other : ℕ)
      → option_map_or items (n other) [] ≡ option_map_or items (m other) [] ++ cond (nat_eq other hash) (place ∷ []) []
  one_more place is other = one_more_step place is other (nat_eq other hash) refl

  same_step : items w ≡ option_map_or items (m hash) [] → (other : ℕ) (same : Bool) → nat_eq other hash ≡ same → option_map_or items (n other) [] ≡ option_map_or items (m other) []
  same_step is other true s =
      let same : other ≡ hash = eqb-true other hash s in
      let back : nat_eq hash other ≡ true = eq-eqb hash other (sym same) in
      let new : n other ≡ Some w = changes other ∙ ap (λ b. cond b (Some w) (m other)) back in
      ap (λ o. option_map_or items o []) new ∙ is ∙ ap (λ t. option_map_or items (m t) []) (sym same)
  same_step is other false s =
      let new : n other ≡ m other = changes other ∙ ap (λ b. cond b (Some w) (m other)) (turned hash other s) in
      ap (λ o. option_map_or items o []) new

  -- a hash whose list stays
  pub as_before : items w ≡ option_map_or items (m hash) [] → (other : ℕ) → option_map_or items (n other) [] ≡ option_map_or items (m other) []
  as_before is other = same_step is other (nat_eq other hash) refl

  -- the same, where the list that the hash had is at hand
  module _ (was : X) (found : Some was ≡ m hash) where
    had : items was ≡ option_map_or items (m hash) []
    had = ap (λ (o : Option X). option_map_or items o []) found

    pub one_more_than : (place : ℕ) → items w ≡ items was ++ place ∷ [] → (other : ℕ)
        → option_map_or items (n other) [] ≡ option_map_or items (m other) [] ++ cond (nat_eq other hash) (place ∷ []) []
    one_more_than place is = one_more place (is ∙ ap (λ (xs : List ℕ). xs ++ place ∷ []) had)

    pub same_as : items w ≡ items was → (other : ℕ) → option_map_or items (n other) [] ≡ option_map_or items (m other) []
    same_as is = as_before (is ∙ had)

pub on_err : {A E : Type 0} {P : Type 0} (r : Result A E) → P → OnErr r P
on_err (Ok x) p = tt
on_err (Err e) p = p

-- equal places, one by one
pub same_places : (xs ys : List ℕ) → AllZip (λ x y. y ≡ x) xs ys → ys ≡ xs
same_places [] [] h = refl
same_places [] (y ∷ ys) h = absurd h
same_places (x ∷ xs) [] h = absurd h
same_places (x ∷ xs) (y ∷ ys) h = λ i. h.0 i ∷ same_places xs ys h.1 i

-- under each hash of a copy stands what stood there
module _ {X : Type 0} (items : X → List ℕ) (R : X → X → Type 0) (alike : (v w : X) → R v w → items w ≡ items v) where
  pub copy_noted : (es fs : List (ℕ × X)) → AllZip (λ p q. (q.0 ≡ p.0) × R p.1 q.1) es fs → (hash : ℕ)
      → option_map_or items (lookup (nat_eq hash) fs) [] ≡ option_map_or items (lookup (nat_eq hash) es) []
  copy_noted [] [] h hash = refl
  copy_noted [] (f ∷ fs) h hash = absurd h
  copy_noted (e ∷ es) [] h hash = absurd h
  copy_noted (e ∷ es) (f ∷ fs) h hash =
      (λ i. option_map_or items (cond (nat_eq hash (h.0.0 i)) (Some f.1) (lookup (nat_eq hash) fs)) []) ∙ by (copy_noted es fs h.1 hash) (nat_eq hash e.0)
    where
      by : option_map_or items (lookup (nat_eq hash) fs) [] ≡ option_map_or items (lookup (nat_eq hash) es) []
          → (b : Bool) → option_map_or items (cond b (Some f.1) (lookup (nat_eq hash) fs)) [] ≡ option_map_or items (cond b (Some e.1) (lookup (nat_eq hash) es)) []
      by later true = alike e.1 f.1 h.0.1
      by later false = later
