-- Numbers in a list.
use Rattle.std.proofs.Common.{◌≡◌, ℕ, ◌+◌, ◌-◌, List, [], ◌∷◌, ◌++◌, length, refl, sym, ap, ◌∙◌, ◌⊎◌, inl, inr, arith}
use Rattle.std.specs.Prelude.{zero, suc, slice_get, reverse, Some, None, Option, option_map, map}
use Rattle.std.specs.List.{enumerate_from}
use Rattle.std.proofs.lemmas.List.{length-map, length-reverse, reverse-append}
use Rattle.std.proofs.lemmas.List.FromFn.{length-enumerate_from}
use Rattle.std.proofs.lemmas.Option.{slice_get-map}
use Rattle.rhd_laws.proofs.PickPlaces.{got}

pub in_front : {A : Type 0} (xs ys : List A) (n : ℕ) (x : A) → slice_get xs n ≡ Some x → slice_get (xs ++ ys) n ≡ Some x
in_front [] ys n x is = absurd cc
in_front (a ∷ xs) ys zero x is = is
in_front (a ∷ xs) ys (suc n) x is = in_front xs ys n x is

pub in_back : {A : Type 0} (xs ys : List A) (n : ℕ) → slice_get (xs ++ ys) (length xs + n) ≡ slice_get ys n
in_back [] ys n = let z : 0 + n ≡ n = omega arith in ap (slice_get ys) z
in_back (a ∷ xs) ys n = let s : suc (length xs) + n ≡ suc (length xs + n) = omega arith in ap (slice_get (a ∷ (xs ++ ys))) s ∙ in_back xs ys n

at_end : {A : Type 0} (xs : List A) (x : A) → slice_get (xs ++ x ∷ []) (length xs) ≡ Some x
at_end [] x = refl
at_end (a ∷ xs) x = at_end xs x

pub backwards : {A : Type 0} (xs : List A) (n : ℕ) (x : A) → slice_get xs n ≡ Some x → slice_get (reverse xs) (length xs - 1 - n) ≡ Some x
backwards [] n x is = absurd cc
backwards (a ∷ xs) zero x is =
    let l = length-reverse xs in
    let s : suc (length xs) - 1 - 0 ≡ length (reverse xs) = omega (arith, l) in
    (λ i. slice_get (reverse-append (a ∷ []) xs i) (s i)) ∙ at_end (reverse xs) a ∙ is
backwards (a ∷ xs) (suc n) x is =
    let s : suc (length xs) - 1 - suc n ≡ length xs - 1 - n = omega arith in
    (λ i. slice_get (reverse-append (a ∷ []) xs i) (s i)) ∙ in_front (reverse xs) (a ∷ []) (length xs - 1 - n) x (backwards xs n x is)

with_number : {A : Type 0} (k : ℕ) (xs : List A) (n : ℕ) (x : A) → slice_get xs n ≡ Some x → slice_get (enumerate_from k xs) n ≡ Some (k + n, x)
with_number k [] n x is = absurd cc
with_number k (a ∷ xs) zero x is = let z : k ≡ k + 0 = omega arith in (λ i. Some (z i, got a x is i))
with_number k (a ∷ xs) (suc n) x is = let s : (k + 1) + n ≡ k + suc n = omega arith in with_number (k + 1) xs n x is ∙ (λ i. Some (s i, x))

pub with_own : {A : Type 0} (xs : List A) (n : ℕ) (x : A) → slice_get xs n ≡ Some x → slice_get (enumerate_from 0 xs) n ≡ Some (n, x)
with_own xs n x is = let z : 0 + n ≡ n = omega arith in with_number 0 xs n x is ∙ (λ i. Some (z i, x))

pub both_lengths : {A B : Type 0} (f : ℕ × A → B) (xs : List A) → length (map f (reverse (enumerate_from 0 xs))) ≡ length xs
both_lengths f xs = length-map (reverse (enumerate_from 0 xs)) f ∙ length-reverse (enumerate_from 0 xs) ∙ length-enumerate_from 0 xs

-- one of a list, with its number, in the list that goes backwards and in the one that goes on
pub one_backwards : {A B : Type 0} (f : ℕ × A → B) (xs : List A) (n : ℕ) (x : A) → slice_get xs n ≡ Some x → slice_get (map f (reverse (enumerate_from 0 xs))) (length xs - 1 - n) ≡ Some (f (n, x))
one_backwards f xs n x is =
    let l = length-enumerate_from 0 xs in
    let s : length xs - 1 - n ≡ length (enumerate_from 0 xs) - 1 - n = omega (arith, l) in
    ap (slice_get (map f (reverse (enumerate_from 0 xs)))) s ∙ slice_get-map f (reverse (enumerate_from 0 xs)) (length (enumerate_from 0 xs) - 1 - n)
    ∙ ap (option_map f) (backwards (enumerate_from 0 xs) n (n, x) (with_own xs n x is))

pub one_onwards : {A B : Type 0} (f : ℕ × A → B) (xs : List A) (n : ℕ) (x : A) → slice_get xs n ≡ Some x → slice_get (map f (enumerate_from 0 xs)) n ≡ Some (f (n, x))
one_onwards f xs n x is = slice_get-map f (enumerate_from 0 xs) n ∙ ap (option_map f) (with_own xs n x is)

-- The same from a number in those lists.

pub either_side : {A : Type 0} (xs ys : List A) (k : ℕ) (x : A) → slice_get (xs ++ ys) k ≡ Some x → (slice_get xs k ≡ Some x) ⊎ ((n : ℕ) × (k ≡ length xs + n) × (slice_get ys n ≡ Some x))
either_side [] ys k x is = let z : k ≡ 0 + k = omega arith in inr (k, z, is)
either_side (a ∷ xs) ys zero x is = inl is
either_side (a ∷ xs) ys (suc k) x is =
    let by : (slice_get xs k ≡ Some x) ⊎ ((n : ℕ) × (k ≡ length xs + n) × (slice_get ys n ≡ Some x)) → (slice_get xs k ≡ Some x) ⊎ ((n : ℕ) × (suc k ≡ suc (length xs) + n) × (slice_get ys n ≡ Some x)) =
    elim [ inl q ↦ inl q | inr r ↦ inr (r.0, omega (arith, r.1), r.2) ]
    in by (either_side xs ys k x is)

last_one : {A : Type 0} (a x : A) (l k n : ℕ) → k ≡ l + n → slice_get (a ∷ []) n ≡ Some x → (k ≡ l) × (a ≡ x)
last_one a x l k zero e is = (omega (arith, e), got a x is)
last_one a x l k (suc n) e is = absurd cc

from_backwards : {A : Type 0} (xs : List A) (k : ℕ) (x : A) → slice_get (reverse xs) k ≡ Some x → (n : ℕ) × (slice_get xs n ≡ Some x) × (k + suc n ≡ length xs)
from_backwards [] k x is = absurd cc
from_backwards (a ∷ xs) k x is =
    let l = length-reverse xs in
    let by : (slice_get (reverse xs) k ≡ Some x) ⊎ ((n : ℕ) × (k ≡ length (reverse xs) + n) × (slice_get (a ∷ []) n ≡ Some x)) → (n : ℕ) × (slice_get (a ∷ xs) n ≡ Some x) × (k + suc n ≡ suc (length xs)) =
    elim [
      | inl q ↦ (let r = from_backwards xs k x q in (suc r.0, r.1, omega (arith, r.2)))
      | inr q ↦ (let r = last_one a x (length (reverse xs)) k q.0 q.1 q.2 in (0, ap Some r.1, omega (arith, r.0, l)))
    ]
    in by (either_side (reverse xs) (a ∷ []) k x ((λ i. slice_get (sym (reverse-append (a ∷ []) xs) i) k) ∙ is))

from_number : {A : Type 0} (k : ℕ) (xs : List A) (n : ℕ) (p : ℕ × A) → slice_get (enumerate_from k xs) n ≡ Some p → (p.0 ≡ k + n) × (slice_get xs n ≡ Some p.1)
from_number k [] n p is = absurd cc
from_number k (a ∷ xs) zero p is =
    let same = got (k, a) p is in
    let z : k ≡ k + 0 = omega arith in (sym (ap (λ q. q.0) same) ∙ z, ap (λ q. Some q.1) same)
from_number k (a ∷ xs) (suc n) p is = let r = from_number (k + 1) xs n p is in (omega (arith, r.0), r.1)

by_map : {A B : Type 0} (f : A → B) (o : Option A) (y : B) → option_map f o ≡ Some y → (x : A) × (o ≡ Some x) × (f x ≡ y)
by_map f None y h = absurd cc
by_map f (Some x) y h = (x, refl, got (f x) y h)

pub from_one_backwards : {A B : Type 0} (f : ℕ × A → B) (xs : List A) (k : ℕ) (y : B) → slice_get (map f (reverse (enumerate_from 0 xs))) k ≡ Some y
    → (n : ℕ) × (x : A) × (slice_get xs n ≡ Some x) × (k + suc n ≡ length xs) × (f (n, x) ≡ y)
from_one_backwards f xs k y is =
    let a = by_map f (slice_get (reverse (enumerate_from 0 xs)) k) y (sym (slice_get-map f (reverse (enumerate_from 0 xs)) k) ∙ is) in
    let b = from_backwards (enumerate_from 0 xs) k a.0 a.1 in
    let c = from_number 0 xs b.0 a.0 b.1 in
    let l = length-enumerate_from 0 xs in
    (b.0, a.0.1, c.1, omega (arith, b.2, l), (let same : b.0 ≡ a.0.0 = omega (arith, c.0) in ap (λ (m : ℕ). f (m, a.0.1)) same ∙ a.2))

pub from_one_onwards : {A B : Type 0} (f : ℕ × A → B) (xs : List A) (k : ℕ) (y : B) → slice_get (map f (enumerate_from 0 xs)) k ≡ Some y → (x : A) × (slice_get xs k ≡ Some x) × (f (k, x) ≡ y)
from_one_onwards f xs k y is =
    let a = by_map f (slice_get (enumerate_from 0 xs) k) y (sym (slice_get-map f (enumerate_from 0 xs) k) ∙ is) in
    let c = from_number 0 xs k a.0 a.1 in
    (a.0.1, c.1, (let same : k ≡ a.0.0 = omega (arith, c.0) in ap (λ (m : ℕ). f (m, a.0.1)) same ∙ a.2))
