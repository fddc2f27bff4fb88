-- Words, numbers and texts that were printed are written so.
use Rattle.std.proofs.Common.{◌≡◌, ℕ, suc, ◌^◌, ◌<◌, ◌≤◌, true, false, eqb, leb, List, [], ◌∷◌, ◌++◌, length, get_or, Some, ℤ, pos, negsuc, refl, sym, ap, subst, ◌∙◌, arith, rules, inl, inr, append_assoc}
use Rattle.std.specs.List.{list_all, flat_map}
use Rattle.std.specs.Char.{is_ascii_digit, IsScalar, encode_utf8}
use Rattle.std.specs.Str.{is_utf8, chars}
use Rattle.std.specs.Str.Parse.{digits_value}
use Rattle.std.specs.Fmt.{decimal, signed_decimal}
use Rattle.std.proofs.lemmas.Bool.{ne_eqb, lt-ltb, le-leb, leb-true}
use Rattle.std.proofs.lemmas.Bool.Decides.{eqb_tells}
use Rattle.std.proofs.lemmas.List.{append-nil}
use Rattle.std.proofs.lemmas.Str.Parse.{IsNumeralModel, numerals_by_value}
use Rattle.std.proofs.lemmas.Str.{IsUtf8-encode, is_utf8-from_IsUtf8, chars_past_char, chars-nil}
use Rattle.std.proofs.lemmas.Fmt.{digits_decimal, digits_value-decimal, decimal_nonempty, length-decimal-le}
use Rattle.rhd_syntax.specs.Bytes.{is_word_byte, may_end, unescaped, num_of, int_of}
use Rattle.rhd_print.specs.PrintedTexts.{escaped, quoted_by}
use Rattle.rhd_text.specs.Proper.{IsInt}
use Rattle.rhd_syntax.specs.Spans.{blanks, run, number, number_run, letter, letters_to, quoted_in, quoted_character, word}
use Rattle.rhd_syntax.proofs.Agrees.{and_parts}

abbrev pub AreDigits : List ℕ → Type 0
AreDigits ds = list_all is_ascii_digit ds ≡ true

pub own : IsNumeralModel AreDigits (digits_value 10)
own = numerals_by_value _ (search rules)

pub space : (rest : List ℕ) → blanks (32 ∷ rest) rest
space rest = (32 ∷ [], refl, refl)

pub no_space : (rest : List ℕ) → blanks rest rest
no_space rest = ([], refl, refl)

-- ---- numbers

digit_is_word : (c : ℕ) → is_ascii_digit c ≡ true → is_word_byte c ≡ true
digit_is_word c h =
    let a = and_parts (leb 48 c) (leb c 57) h in
    let lo : 48 ≤ c = leb-true _ _ a.0 in
    let hi : c ≤ 57 = leb-true _ _ a.1 in
    rw (ne_eqb c 32 (λ e. omega (arith, e)), ne_eqb c 9 (λ e. omega (arith, e)), ne_eqb c 40 (λ e. omega (arith, e)), ne_eqb c 41 (λ e. omega (arith, e)), ne_eqb c 91 (λ e. omega (arith, e)), ne_eqb c 93 (λ e. omega (arith, e)), ne_eqb c 123 (λ e. omega (arith, e)), ne_eqb c 125 (λ e. omega (arith, e)), ne_eqb c 34 (λ e. omega (arith, e)), ne_eqb c 39 (λ e. omega (arith, e))) refl

digits_are_word : (w : List ℕ) → list_all is_ascii_digit w ≡ true → list_all is_word_byte w ≡ true
digits_are_word [] h = refl
digits_are_word (c ∷ w) h =
    let a = and_parts (is_ascii_digit c) (list_all is_ascii_digit w) h in
    rw (digit_is_word c a.0, digits_are_word w a.1) refl

digits_no_sign : (w : List ℕ) → list_all is_ascii_digit w ≡ true → eqb (get_or w 0 0) 45 ≡ false
digits_no_sign [] h = ne_eqb 0 45 (λ e. omega (arith, e))
digits_no_sign (c ∷ w) h =
    let a = and_parts (is_ascii_digit c) (list_all is_ascii_digit w) h in
    let b = and_parts (leb 48 c) (leb c 57) a.0 in
    ne_eqb c 45 (λ e. omega (arith, e, leb-true _ _ b.0))

int_of_again : (z : ℤ) → IsInt z → int_of (signed_decimal z) ≡ Some z
unfolding int_of
int_of_again (pos n) small =
    let ds = digits_decimal own n (omega (arith, small)) in
    let v = digits_value-decimal own n (omega (arith, small)) in
    let k = lt-ltb 0 (length (decimal n)) (decimal_nonempty n (omega (arith, small))) in
    rw (digits_no_sign (decimal n) ds, k, ds, v, lt-ltb n (2 ^ 63) small) refl
int_of_again (negsuc n) small =
    let ds = digits_decimal own (suc n) (omega (arith, small)) in
    let v = digits_value-decimal own (suc n) (omega (arith, small)) in
    let k = lt-ltb 0 (length (decimal (suc n))) (decimal_nonempty (suc n) (omega (arith, small))) in
    rw (k, ds, v, le-leb (suc n) (2 ^ 63) (omega (arith, small))) refl

num_of_again : (bits n : ℕ) → n < 2 ^ bits → n < 2 ^ 64 → num_of bits (decimal n) ≡ Some n
unfolding num_of
num_of_again bits n small fits =
    let ds = digits_decimal own n fits in
    let v = digits_value-decimal own n fits in
    let k = lt-ltb 0 (length (decimal n)) (decimal_nonempty n fits) in
    let l = le-leb (length (decimal n)) 20 (length-decimal-le 20 n (omega arith) (omega (arith, fits)) fits) in
    rw (k, ds, l, v, lt-ltb n (2 ^ bits) small) refl

decimal_run : (n : ℕ) (rest : List ℕ) → n < 2 ^ 64 → may_end rest ≡ true → run (decimal n) (decimal n ++ rest) rest
decimal_run n rest fits ends = (digits_are_word (decimal n) (digits_decimal own n fits), decimal_nonempty n fits, refl, ends)

signed_run : (z : ℤ) (rest : List ℕ) → IsInt z → may_end rest ≡ true → run (signed_decimal z) (signed_decimal z ++ rest) rest
signed_run (pos n) rest small ends = decimal_run n rest (omega (arith, small)) ends
signed_run (negsuc n) rest small ends =
    let d = digits_are_word (decimal (suc n)) (digits_decimal own (suc n) (omega (arith, small))) in
    (d, omega arith, refl, ends)

pub integer_again : (z : ℤ) (rest : List ℕ) → IsInt z → may_end rest ≡ true → number_run z (signed_decimal z ++ rest) rest
integer_again z rest small ends = (signed_decimal z, int_of_again z small, signed_run z rest small ends)

-- a number after its blanks
pub number_again : (bits n : ℕ) (bytes rest : List ℕ) → n < 2 ^ bits → n < 2 ^ 64 → may_end rest ≡ true → blanks bytes (decimal n ++ rest) → number bits n bytes rest
number_again bits n bytes rest small fits ends gap = (decimal n, num_of_again bits n small fits, (decimal n ++ rest, gap, decimal_run n rest fits ends))

-- ---- texts

letter_again : (q b : ℕ) (m : List ℕ) → unescaped q ≡ Some q → letter q b (escaped q b ++ m) m
letter_again q b m self =
    elim (eqb_tells b 92) [
      | inl s ↦ rw s.0 (inr (92, ap (λ (x : ℕ). Some x) (sym s.1), refl))
      | inr s ↦ elim (eqb_tells b q) [
        | inl t ↦ rw (s.0, t.0) (inr (q, self ∙ ap (λ (x : ℕ). Some x) (sym t.1), refl))
        | inr t ↦ elim (eqb_tells b 10) [
          | inl u ↦ rw (s.0, t.0, u.0) (inr (110, ap (λ (x : ℕ). Some x) (sym u.1), refl))
          | inr u ↦ elim (eqb_tells b 9) [
            | inl v ↦ rw (s.0, t.0, u.0, v.0) (inr (116, ap (λ (x : ℕ). Some x) (sym v.1), refl))
            | inr v ↦ elim (eqb_tells b 13) [
              | inl w ↦ rw (s.0, t.0, u.0, v.0, w.0) (inr (114, ap (λ (x : ℕ). Some x) (sym w.1), refl))
              | inr w ↦ rw (s.0, t.0, u.0, v.0, w.0) (inl (t.1, s.1, refl))
            ]
          ]
        ]
      ]
    ]

letters_again : (q : ℕ) (s rest : List ℕ) → unescaped q ≡ Some q → letters_to q s (flat_map (escaped q) s ++ q ∷ rest) rest
letters_again q [] rest self = refl
letters_again q (b ∷ s) rest self =
    let m = flat_map (escaped q) s ++ q ∷ rest in
    (m, subst (λ (x : List ℕ). letter q b x m) (sym (append_assoc (escaped q b) (flat_map (escaped q) s) (q ∷ rest))) (letter_again q b m self), letters_again q s rest self)

pub quoted_again : (q : ℕ) (s rest : List ℕ) → unescaped q ≡ Some q → is_utf8 s ≡ true → may_end rest ≡ true → quoted_in q s (quoted_by q s ++ rest) rest
unfolding quoted_by
quoted_again q s rest self utf8 ends =
    let inner = flat_map (escaped q) s in
    let e : (inner ++ q ∷ []) ++ rest ≡ inner ++ q ∷ rest = append_assoc inner (q ∷ []) rest in
    (utf8, ((inner ++ q ∷ []) ++ rest, refl, subst (λ (x : List ℕ). letters_to q s x rest) (sym e) (letters_again q s rest self)), ends)

pub character_again : (c : ℕ) (rest : List ℕ) → IsScalar c → may_end rest ≡ true → quoted_character c (quoted_by 39 (encode_utf8 c) ++ rest) rest
character_again c rest scalar ends =
    let u = IsUtf8-encode c scalar in
    let one : chars (encode_utf8 c) ≡ c ∷ [] = chars_past_char (encode_utf8 c) [] c u (sym (append-nil (encode_utf8 c))) ∙ ap (λ (cs : List ℕ). c ∷ cs) chars-nil in
    (encode_utf8 c, one, quoted_again 39 (encode_utf8 c) rest refl (is_utf8-from_IsUtf8 (encode_utf8 c) u) ends)

-- a text after its blanks
pub word_again : (s bytes rest : List ℕ) → is_utf8 s ≡ true → may_end rest ≡ true → blanks bytes (quoted_by 34 s ++ rest) → word s bytes rest
word_again s bytes rest utf8 ends gap = (quoted_by 34 s ++ rest, gap, inr (quoted_again 34 s rest refl utf8 ends))
