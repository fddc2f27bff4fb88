-- What stands before and after the last of a byte, where a text is cut there.
use Rattle.std.proofs.Common.{◌≡◌, ◌≢◌, ℕ, ◌+◌, ◌-◌, ◌<◌, ◌==◌, Bool, not, List, [], ◌∷◌, ◌++◌, length, get_or, take, drop, None, Some}
use Rattle.std.proofs.Common.{sym, ap, ◌∙◌, eq-eqb, ne_eqb, length-drop, get_or-drop, take-append-drop, arith}
use Rattle.std.specs.List.{suffix_len, before_last, after_last}
use Rattle.std.specs.Str.Pattern.{RFindsChar, SplitsAroundMatch}
use Rattle.std.proofs.lemmas.List.{get_or-reverse, length-reverse}
use Rattle.std.proofs.lemmas.List.Sums.{prefix_len_is}
use Rattle.std.proofs.lemmas.Str.{len_utf8_ascii}
use Rattle.std.proofs.lemmas.Str.Pattern.{NoCharPasses-char, drop_at_char}

module _ (c : ℕ) (text : List ℕ) where
  abbrev is : ℕ → Bool
  is b = b == c

  abbrev other : ℕ → Bool
  other b = not (b == c)

  -- no byte is c
  abbrev pub Lacks : Type 0
  Lacks = (i : ℕ) → i < length text → get_or text i 0 ≢ c

  -- c stands at k, and not after it
  pub record IsLast (k : ℕ) : Type 0 where
    pub within : k < length text
    pub here : get_or text k 0 ≡ c
    pub later : (i : ℕ) → k < i → i < length text → get_or text i 0 ≢ c

  others_all : Lacks → suffix_len other text ≡ length text
  others_all none =
      let long = length-reverse text in
      prefix_len_is other _ (length text) 0 (omega arith)
      (λ i l. ap other (get_or-reverse text i 0 l) ∙ ap not (ne_eqb _ c (none (length text - 1 - i) (omega arith))))
      (λ l. absurd (omega arith))

  others_after : (k : ℕ) → IsLast k → suffix_len other text ≡ length text - (k + 1)
  others_after k last =
      let long = length-reverse text in
      let within : k < length text = last.within in
      let n : ℕ = length text - (k + 1) in
      let place : length text - 1 - n ≡ k = omega arith in
      prefix_len_is other _ n 0 (omega arith)
      (λ i l. ap other (get_or-reverse text i 0 (omega arith)) ∙ ap not (ne_eqb _ c (last.later (length text - 1 - i) (omega arith) (omega arith))))
      (λ l. ap other (get_or-reverse text n 0 (omega arith) ∙ ap (λ i. get_or text i 0) place) ∙ ap not (eq-eqb _ c last.here))

  pub before_none : Lacks → before_last is text ≡ []
  before_none none = ap (λ n. take n text) {y = 0} (omega (arith, others_all none))

  pub after_none : Lacks → after_last is text ≡ text
  after_none none = ap (λ n. drop n text) {y = 0} (omega (arith, others_all none))

  pub before_at : (k : ℕ) → IsLast k → before_last is text ≡ take k text
  before_at k last = ap (λ n. take n text) (omega (arith, others_after k last, last.within))

  pub after_at : (k : ℕ) → IsLast k → after_last is text ≡ drop (k + 1) text
  after_at k last = ap (λ n. drop n text) (omega (arith, others_after k last, last.within))

  -- what a search from the end says
  pub lacks : RFindsChar c text None → c < 128 → Lacks
  lacks none low i = NoCharPasses-char c text i none low

  pub is_last : (i j : ℕ) → RFindsChar c text (Some (i, j)) → c < 128 → (j ≡ i + 1) × IsLast i
  is_last i j at low =
      let next : j ≡ i + 1 = omega (arith, at.1.ends, len_utf8_ascii c low) in
      let rest = drop_at_char c text i j at.1 low in
      let within : i < length text = omega (arith, ap length rest, length-drop i text) in (
        next,
        record {
          within = within;
          here = at.1.byte low;
          later = λ k a l e.
              let back : j + (k - j) ≡ k = omega arith in
              NoCharPasses-char c (drop j text) (k - j) at.0 low (omega (arith, length-drop j text)) (get_or-drop j text (k - j) 0 ∙ ap (λ n. get_or text n 0) back ∙ e);
        },
      )

  -- a text that is cut at its last c
  pub record IsCut (front back : List ℕ) : Type 0 where
    pub before : before_last is text ≡ front
    pub after : after_last is text ≡ back
    pub whole : text ≡ front ++ c ∷ back

  pub cut : (front back : List ℕ) → SplitsAroundMatch (RFindsChar c) text front back → c < 128 → IsCut front back
  cut front back at low =
      let i = at.0 in
      let found = is_last i at.1 at.2 low in
      let back_is : back ≡ drop (i + 1) text = at.4 ∙ ap (λ n. drop n text) found.0 in
      record {
        before = before_at i found.1 ∙ sym at.3;
        after = after_at i found.1 ∙ sym back_is;
        whole = sym (take-append-drop i text) ∙ ap (λ xs. take i text ++ xs) (drop_at_char c text i at.1 at.2.1 low) ∙ ap (λ xs. take i text ++ c ∷ xs) (sym at.4) ∙ ap (λ xs. xs ++ c ∷ back) (sym at.3);
      }
