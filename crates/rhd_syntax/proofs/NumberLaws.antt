-- What words of digits parse to, and which words are text.
use Rattle.std.proofs.Common.{◌≡◌, ℕ, zero, suc, inl, inr, ◌^◌, ◌<◌, ◌≤◌, Bool, true, false, cond, ltb, leb, List, [], ◌∷◌, length, drop, get_or, Some, None, Result, Ok, Err, ℤ, pos, neg_ℤ, refl, sym, ap, arith, rules}
use Rattle.std.specs.List.{list_all}
use Rattle.std.specs.Char.{is_ascii_digit}
use Rattle.std.specs.Result.{OkIff, result_ok}
use Rattle.std.specs.Int.{w64}
use Rattle.std.specs.Str.{IsUtf8, IsAscii, is_utf8}
use Rattle.std.specs.Prelude.{MatchResult, is_ok}
use Rattle.std.specs.Str.Parse.{digits_value, ParsesUnsigned, ParsesSigned}
use Rattle.std.proofs.lemmas.Str.Parse.{IsNumeralModel, numerals_by_value, parse_digits, parse_signed_digits, parse_signed_minus}
use Rattle.std.proofs.lemmas.Str.{IsUtf8-from_ascii, IsUtf8-from_is_utf8, is_utf8-from_IsUtf8}
use Rattle.std.proofs.lemmas.Fmt.{IsAscii-from_digits}
use Rattle.std.proofs.lemmas.Bool.{ltb-true, lt-ltb, le-ltb, le-leb, lt-leb, cases_lt}
use Rattle.std.proofs.lemmas.Bool.Decides.{eqb_tells}
use Rattle.rhd_syntax.proofs.Agrees.{and_parts}
use Rattle.rhd_syntax.specs.Bytes.{is_digits, is_signed_digits, fitting_int}

abbrev AreDigits : List ℕ → Type 0
AreDigits ds = list_all is_ascii_digit ds ≡ true

own : IsNumeralModel AreDigits (digits_value 10)
own = numerals_by_value _ (search rules)

pub digits_are_text : (w : List ℕ) → is_digits w ≡ true → IsUtf8 w
digits_are_text w h = IsUtf8-from_ascii w (IsAscii-from_digits w (own.to w (and_parts (ltb 0 (length w)) (list_all is_ascii_digit w) h).1))

small_or_none : {E : Type 0} (r : Result ℕ E) (v most : ℕ) (P : Type 0) → P → OkIff r (P × (v < most)) v → result_ok r ≡ cond (ltb v most) (Some v) None
small_or_none (Ok x) v most P p h = rw (lt-ltb v most h.0.1) (ap (λ (n : ℕ). Some n) h.1)
small_or_none (Err e) v most P p h =
    elim (cases_lt v most) [
      | inl lt ↦ absurd (h (p, lt))
      | inr le ↦ rw (le-ltb v most le) refl
    ]

pub parsed_number : {E : Type 0} (bits : ℕ) (w : List ℕ) (r : Result ℕ E) → is_digits w ≡ true → ParsesUnsigned bits 10 w r → result_ok r ≡ cond (ltb (digits_value 10 w) (2 ^ bits)) (Some (digits_value 10 w)) None
parsed_number bits w r h p =
    let a = and_parts (ltb 0 (length w)) (list_all is_ascii_digit w) h in
    small_or_none r (digits_value 10 w) (2 ^ bits) (0 < length w) (ltb-true _ _ a.0) (parse_digits own bits w r p a.1)

-- the same of signed numbers
pos_or_none : {E : Type 0} (r : Result ℤ E) (v most : ℕ) (P : Type 0) → P → OkIff r (P × (v < most)) (pos v) → result_ok r ≡ cond (ltb v most) (Some (pos v)) None
pos_or_none (Ok x) v most P p h = rw (lt-ltb v most h.0.1) (ap (λ (n : ℤ). Some n) h.1)
pos_or_none (Err e) v most P p h =
    elim (cases_lt v most) [
      | inl lt ↦ absurd (h (p, lt))
      | inr le ↦ rw (le-ltb v most le) refl
    ]

neg_or_none : {E : Type 0} (r : Result ℤ E) (v most : ℕ) (P Q : Type 0) → P → Q → OkIff r (P × Q × (v ≤ most)) (neg_ℤ (pos v)) → result_ok r ≡ cond (leb v most) (Some (neg_ℤ (pos v))) None
neg_or_none (Ok x) v most P Q p q h = rw (le-leb v most h.0.2) (ap (λ (n : ℤ). Some n) h.1)
neg_or_none (Err e) v most P Q p q h =
    elim (cases_lt most v) [
      | inl lt ↦ rw (lt-leb v most lt) refl
      | inr le ↦ absurd (h (p, q, le))
    ]

pub parsed_i64 : {E : Type 0} (w : List ℕ) (r : Result ℤ E) → is_signed_digits w ≡ true → ParsesSigned w64 10 w r → result_ok r ≡ fitting_int w
parsed_i64 w r h p =
    elim (eqb_tells (get_or w 0 0) 45) [
      | inl t ↦
          let d : is_digits (drop 1 w) ≡ true = rw t.0 at h in
          let a = and_parts (ltb 0 (length (drop 1 w))) (list_all is_ascii_digit (drop 1 w)) d in
          rw t.0 (neg_or_none r (digits_value 10 (drop 1 w)) (2 ^ 63) (AreDigits (drop 1 w)) (0 < length (drop 1 w)) a.1 (ltb-true _ _ a.0) (parse_signed_minus own w64 w r p t.1))
      | inr f ↦
          let d : is_digits w ≡ true = rw f.0 at h in
          let a = and_parts (ltb 0 (length w)) (list_all is_ascii_digit w) d in
          rw f.0 (pos_or_none r (digits_value 10 w) (2 ^ 63) (0 < length w) (ltb-true _ _ a.0) (parse_signed_digits own w64 w r p a.1))
    ]

pub ascii-cons : (b : ℕ) (bs : List ℕ) → b < 128 → IsAscii bs → IsAscii (b ∷ bs)
ascii-cons b bs lt h zero = lt
ascii-cons b bs lt h (suc i) = h i

pub signed_digits_are_text : (w : List ℕ) → is_signed_digits w ≡ true → IsUtf8 w
signed_digits_are_text [] h = absurd cc
signed_digits_are_text (b ∷ ds) h =
    elim (eqb_tells b 45) [
      | inl t ↦
          let d : is_digits ds ≡ true = rw t.0 at h in
          IsUtf8-from_ascii (b ∷ ds) (ascii-cons b ds (omega (arith, t.1)) (IsAscii-from_digits ds (own.to ds (and_parts (ltb 0 (length ds)) (list_all is_ascii_digit ds) d).1)))
      | inr f ↦
          let d : is_digits (b ∷ ds) ≡ true = rw f.0 at h in
          digits_are_text (b ∷ ds) d
    ]

-- ---- text

not_true : (b : Bool) → (b ≡ true → ⊥) → false ≡ b
not_true true h = absurd (h refl)
not_true false h = refl

pub tells_text : {X E : Type 0} (Q : X → Type 0) (P : E → Type 0) (r : Result X E) (bs : List ℕ) → MatchResult r (λ s. Q s × IsUtf8 bs) (λ e. ¬ (IsUtf8 bs) × P e) → is_ok r ≡ is_utf8 bs
tells_text Q P (Ok x) bs h = sym (is_utf8-from_IsUtf8 bs h.1)
tells_text Q P (Err e) bs h = not_true (is_utf8 bs) (λ t. h.0 (IsUtf8-from_is_utf8 bs t))

pub is_text : (bs : List ℕ) → IsUtf8 bs → is_utf8 bs ≡ true
is_text bs h = is_utf8-from_IsUtf8 bs h

pub is_no_text : (bs : List ℕ) → ¬ (IsUtf8 bs) → is_utf8 bs ≡ false
is_no_text bs h = sym (not_true (is_utf8 bs) (λ t. h (IsUtf8-from_is_utf8 bs t)))
