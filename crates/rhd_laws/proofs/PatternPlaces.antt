-- Of two patterns of the kinds of some values, the more exact goes before the other.
use Rattle.std.proofs.Common.{◌≡◌, ◌≢◌, ◌<◌, ℕ, ◌+◌, List, [], ◌∷◌, ◌++◌, length, map, refl, sym, ap, subst, ◌∙◌, inl, inr, arith}
use Rattle.std.specs.Prelude.{zero, suc, slice_get, Option, Some, ◌↔◌}
use Rattle.std.specs.List.{AllByRecursion, Contains}
use Rattle.rhd_value.specs.Kinds.{tag_of, tag_of_kind}
use Rattle.rhd_value.specs.Tree.{Tree, Kind, unit, boolean, integer, character, text, array, object, pointer, custom}
use Rattle.rhd_value.specs.declared.tag.TypeTag.{TypeTag}
use Rattle.rhd_value.specs.declared.tag.TypeTag.TheVariants.{Dynamic}
use Rattle.rhd_dispatch.specs.Patterns.{patterns_to, patterns}
use Rattle.rhd_laws.specs.Matches.{IsMoreExact}
use Rattle.rhd_laws.proofs.PatternOrder.{MatchTo, Before, not_before_itself, pattern_matches, before_is, is_before, as_long, in_order, Ordered, first_goes, second_goes, same_types}

-- Places in lists.

got_head : {A : Type 0} (x y : A) → ◌≡◌ {A = Option A} (Some x) (Some y) → x ≡ y
got_head x y e = cc

as_many : {A B : Type 0} (g : A → B) (xs : List A) → length (map g xs) ≡ length xs
as_many g [] = refl
as_many g (x ∷ xs) = ap suc (as_many g xs)

data PlaceIn {A : Type 0} (xs ys : List A) (i : ℕ) (x : A) : Type 0 where
  in_left : i < length xs → slice_get xs i ≡ Some x → PlaceIn xs ys i x
  in_right : (k : ℕ) → i ≡ length xs + k → slice_get ys k ≡ Some x → PlaceIn xs ys i x

one_on : {A : Type 0} (a : A) (xs ys : List A) (i : ℕ) (x : A) → PlaceIn xs ys i x → PlaceIn (a ∷ xs) ys (suc i) x
one_on a xs ys i x (in_left small h) = in_left (omega (arith, small)) h
one_on a xs ys i x (in_right k s h) = in_right k (omega (arith, s)) h

place_in : {A : Type 0} (xs ys : List A) (i : ℕ) (x : A) → slice_get (xs ++ ys) i ≡ Some x → PlaceIn xs ys i x
place_in [] ys i x h = in_right i (omega arith) h
place_in (a ∷ xs) ys zero x h = in_left (omega arith) h
place_in (a ∷ xs) ys (suc i) x h = one_on a xs ys i x (place_in xs ys i x h)

place_mapped : {A B : Type 0} (g : A → B) (xs : List A) (i : ℕ) (y : B) → slice_get (map g xs) i ≡ Some y → (x : A) × (slice_get xs i ≡ Some x) × (y ≡ g x)
place_mapped g [] i y h = absurd cc
place_mapped g (a ∷ xs) zero y h = (a, refl, sym (got_head (g a) y h))
place_mapped g (a ∷ xs) (suc i) y h = place_mapped g xs i y h

only_place : {A : Type 0} (a x : A) (i : ℕ) → slice_get (a ∷ []) i ≡ Some x → (x ≡ a) × (i ≡ 0)
only_place a x zero h = (sym (got_head a x h), refl)
only_place a x (suc i) h = absurd cc

-- Where a pattern stands: among those that keep the first kind, or among the others behind them.
data Stands (n : ℕ) (k : TypeTag) (ks : List TypeTag) (i : ℕ) (types : List TypeTag) : Type 0 where
  keeps : (ts : List TypeTag) → i < length (patterns_to n ks) → slice_get (patterns_to n ks) i ≡ Some ts → types ≡ k ∷ ts → Stands n k ks i types
  changes : (ts : List TypeTag) (m : ℕ) → i ≡ length (patterns_to n ks) + m → slice_get (patterns_to n ks) m ≡ Some ts → types ≡ Dynamic ∷ ts → Stands n k ks i types

stands_by : (n : ℕ) (k : TypeTag) (ks : List TypeTag) (i : ℕ) (types : List TypeTag) → PlaceIn (map (λ p. k ∷ p) (patterns_to n ks)) (map (λ p. Dynamic ∷ p) (patterns_to n ks)) i types → Stands n k ks i types
stands_by n k ks i types (in_left small h) =
    let r = place_mapped (λ p. k ∷ p) (patterns_to n ks) i types h in
    keeps r.0 (omega (arith, small, as_many (λ p. k ∷ p) (patterns_to n ks))) r.1 r.2
stands_by n k ks i types (in_right m s h) =
    let r = place_mapped (λ p. Dynamic ∷ p) (patterns_to n ks) m types h in
    changes r.0 m (omega (arith, s, as_many (λ p. k ∷ p) (patterns_to n ks))) r.1 r.2

stands : (n : ℕ) (k : TypeTag) (ks : List TypeTag) (i : ℕ) (types : List TypeTag) → slice_get (patterns_to (suc n) (k ∷ ks)) i ≡ Some types → Stands n k ks i types
unfolding patterns_to
stands n k ks i types h = stands_by n k ks i types (place_in (map (λ p. k ∷ p) (patterns_to n ks)) (map (λ p. Dynamic ∷ p) (patterns_to n ks)) i types h)

stands_last : (k : TypeTag) (ks : List TypeTag) (i : ℕ) (types : List TypeTag) → slice_get (patterns_to zero (k ∷ ks)) i ≡ Some types → (types ≡ k ∷ ks) × (i ≡ 0)
unfolding patterns_to
stands_last k ks i types h = only_place (k ∷ ks) types i h

stands_none : (n i : ℕ) (types : List TypeTag) → slice_get (patterns_to n []) i ≡ Some types → (types ≡ []) × (i ≡ 0)
unfolding patterns_to
stands_none n i types h = only_place [] types i h

-- no kind is `Dynamic`
abbrev NoneAny : List TypeTag → Type 0
NoneAny kinds = AllByRecursion (λ k. k ≢ Dynamic) kinds

kept_tail : (k : TypeTag) (ks ts rest : List TypeTag) → Before (k ∷ ks) (k ∷ ts) (k ∷ rest) → Before ks ts rest
kept_tail k ks ts rest (inl h) = absurd (h.1 refl)
kept_tail k ks ts rest (inr h) = h.1

any_tail : (k : TypeTag) (ks ts rest : List TypeTag) → k ≢ Dynamic → Before (k ∷ ks) (Dynamic ∷ ts) (Dynamic ∷ rest) → Before ks ts rest
any_tail k ks ts rest apart (inl h) = absurd (apart (sym h.0))
any_tail k ks ts rest apart (inr h) = h.1

any_kept : (k : TypeTag) (ks ts rest : List TypeTag) → k ≢ Dynamic → Before (k ∷ ks) (Dynamic ∷ ts) (k ∷ rest) → ⊥
any_kept k ks ts rest apart (inl h) = apart (sym h.0)
any_kept k ks ts rest apart (inr h) = apart (sym h.0)

both : (k : TypeTag) (ks types others a b : List TypeTag) → types ≡ a → others ≡ b → Before (k ∷ ks) types others → Before (k ∷ ks) a b
both k ks types others a b p q h = subst (λ ts. Before (k ∷ ks) ts b) p (subst (λ os. Before (k ∷ ks) types os) q h)

goes_before : (n : ℕ) (k : TypeTag) (ks : List TypeTag) (i j : ℕ) (types others : List TypeTag) → k ≢ Dynamic
    → ((x y : ℕ) (ts rest : List TypeTag) → slice_get (patterns_to n ks) x ≡ Some ts → slice_get (patterns_to n ks) y ≡ Some rest → Before ks ts rest → x < y)
    → Stands n k ks i types → Stands n k ks j others → Before (k ∷ ks) types others → i < j
goes_before n k ks i j types others apart h (keeps ts small a p) (keeps rest less b q) before = h i j ts rest a b (kept_tail k ks ts rest (both k ks types others (k ∷ ts) (k ∷ rest) p q before))
goes_before n k ks i j types others apart h (keeps ts small a p) (changes rest m s b q) before = omega (arith, small, s)
goes_before n k ks i j types others apart h (changes ts l r a p) (keeps rest less b q) before = absurd (any_kept k ks ts rest apart (both k ks types others (Dynamic ∷ ts) (k ∷ rest) p q before))
goes_before n k ks i j types others apart h (changes ts l r a p) (changes rest m s b q) before =
    let less : l < m = h l m ts rest a b (any_tail k ks ts rest apart (both k ks types others (Dynamic ∷ ts) (Dynamic ∷ rest) p q before)) in omega (arith, r, s, less)

exact_before : (n : ℕ) (kinds : List TypeTag) → NoneAny kinds → (i j : ℕ) (types others : List TypeTag) → slice_get (patterns_to n kinds) i ≡ Some types → slice_get (patterns_to n kinds) j ≡ Some others → Before kinds types others → i < j
exact_before n [] none i j types others a b before = absurd before
exact_before zero (k ∷ ks) none i j types others a b before =
    absurd (not_before_itself types (k ∷ ks) (subst (λ os. Before (k ∷ ks) types os) (stands_last k ks j others b).0 before))
exact_before (suc n) (k ∷ ks) none i j types others a b before = goes_before n k ks i j types others none.0 (exact_before n ks none.1) (stands n k ks i types a) (stands n k ks j others b) before

same_tail : (a b : TypeTag) (ts rest : List TypeTag) → a ∷ ts ≡ b ∷ rest → ts ≡ rest
same_tail a b ts rest h = cc

same_front : (a b : TypeTag) (ts rest : List TypeTag) → a ∷ ts ≡ b ∷ rest → a ≡ b
same_front a b ts rest h = cc

one_place_by : (n : ℕ) (k : TypeTag) (ks : List TypeTag) (i j : ℕ) (types : List TypeTag) → k ≢ Dynamic
    → ((x y : ℕ) (ts : List TypeTag) → slice_get (patterns_to n ks) x ≡ Some ts → slice_get (patterns_to n ks) y ≡ Some ts → x ≡ y)
    → Stands n k ks i types → Stands n k ks j types → i ≡ j
one_place_by n k ks i j types apart h (keeps ts small a p) (keeps rest less b q) = h i j ts a (b ∙ ap Some (sym (same_tail k k ts rest (sym p ∙ q))))
one_place_by n k ks i j types apart h (keeps ts small a p) (changes rest m s b q) = absurd (apart (same_front k Dynamic ts rest (sym p ∙ q)))
one_place_by n k ks i j types apart h (changes ts l r a p) (keeps rest less b q) = absurd (apart (sym (same_front Dynamic k ts rest (sym p ∙ q))))
one_place_by n k ks i j types apart h (changes ts l r a p) (changes rest m s b q) =
    let same : l ≡ m = h l m ts a (b ∙ ap Some (sym (same_tail Dynamic Dynamic ts rest (sym p ∙ q)))) in r ∙ ap (λ x. length (patterns_to n ks) + x) same ∙ sym s

one_place : (n : ℕ) (kinds : List TypeTag) → NoneAny kinds → (i j : ℕ) (types : List TypeTag) → slice_get (patterns_to n kinds) i ≡ Some types → slice_get (patterns_to n kinds) j ≡ Some types → i ≡ j
one_place n [] none i j types a b = (stands_none n i types a).1 ∙ sym (stands_none n j types b).1
one_place zero (k ∷ ks) none i j types a b = (stands_last k ks i types a).1 ∙ sym (stands_last k ks j types b).1
one_place (suc n) (k ∷ ks) none i j types a b = one_place_by n k ks i j types none.0 (one_place n ks none.1) (stands n k ks i types a) (stands n k ks j types b)

-- The kinds of values.

not_any : (k : Kind) → tag_of_kind k ≢ Dynamic
not_any unit h = absurd cc
not_any (boolean b) h = absurd cc
not_any (integer z) h = absurd cc
not_any (character c) h = absurd cc
not_any (text s) h = absurd cc
not_any (array ts) h = absurd cc
not_any (object es) h = absurd cc
not_any (pointer n ts p) h = absurd cc
not_any (custom n z) h = absurd cc

none_any : (args : List Tree) → NoneAny (map tag_of args)
none_any [] = tt
none_any (a ∷ args) = (not_any a.kind, none_any args)

contained : {A : Type 0} (xs : List A) (i : ℕ) (x : A) → slice_get xs i ≡ Some x → Contains xs x
contained [] i x h = absurd cc
contained (a ∷ xs) zero x h = (0, omega arith, got_head a x h)
contained (a ∷ xs) (suc i) x h = let r = contained xs i x h in (suc r.0, omega (arith, r.1), r.2)

pub exact_first : (args : List Tree) (types others : List TypeTag) (i j : ℕ) → slice_get (patterns (map tag_of args)) i ≡ Some types → slice_get (patterns (map tag_of args)) j ≡ Some others
    → (i < j) ↔ IsMoreExact (map tag_of args) types others
exact_first args types others i j a b =
    let kinds : List TypeTag = map tag_of args in
    let m : MatchTo 16 types kinds = pattern_matches 16 kinds types (contained (patterns kinds) i types a) in
    let o : MatchTo 16 others kinds = pattern_matches 16 kinds others (contained (patterns kinds) j others b) in
    let by : i < j → Ordered kinds types others → IsMoreExact kinds types others = λ less. elim [
      | first_goes h ↦ is_before kinds types others h
      | second_goes h ↦ (let back : j < i = exact_before 16 kinds (none_any args) j i others types b a h in absurd (omega (arith, less, back)))
      | same_types s ↦ (let same : i ≡ j = one_place 16 kinds (none_any args) i j types a (b ∙ ap Some (sym s)) in absurd (omega (arith, less, same)))
    ] in
    (λ less. by less (in_order 16 kinds types others m o), λ h. exact_before 16 kinds (none_any args) i j types others a b (before_is kinds types others (as_long 16 types kinds m) (as_long 16 others kinds o) h))
