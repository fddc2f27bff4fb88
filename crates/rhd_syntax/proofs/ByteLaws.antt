-- Single bytes and brackets.
use Rattle.std.proofs.Common.{◌≡◌, ℕ, ◌<◌, Bool, true, false, eqb, List, [], ◌∷◌, ◌++◌, length, drop, refl, sym, ap, subst, ◌∙◌, arith, inl, inr}
use Rattle.std.specs.List.{list_all}
use Rattle.std.proofs.lemmas.Bool.{ne_eqb, eqb-true}
use Rattle.std.proofs.lemmas.Bool.Decides.{eqb_tells}
use Rattle.rhd_syntax.specs.Bytes.{is_blank, is_word_byte, begins}
use Rattle.rhd_syntax.specs.Spans.{Span, ◌▸◌, blanks, bracket, run}
use Rattle.rhd_syntax.specs.Reading.{Parse, skip_blanks, comes, after_bracket}
use Rattle.rhd_syntax.proofs.Agrees.{Agrees, and_parts}
use Rattle.rhd_syntax.proofs.WordLaws.{Stops, skipped, skips_to, blanks_shrink, head_stop}

pub not_both : (b : Bool) → b ≡ true → b ≡ false → ⊥
not_both true t f = absurd cc
not_both false t f = absurd cc

-- ---- the first byte

pub begins_is : (c : ℕ) (bytes : List ℕ) → 0 < c → begins c bytes ≡ true → bytes ≡ c ∷ drop 1 bytes
begins_is c [] some e = let f : eqb 0 c ≡ false = ne_eqb _ _ (λ q. omega (arith, q, some)) in absurd cc
begins_is c (b ∷ bytes) some e = ap (λ (x : ℕ). x ∷ bytes) (eqb-true b c e)

pub eqb_self : (c : ℕ) → eqb c c ≡ true
eqb_self c = elim (eqb_tells c c) [
  | inl q ↦ q.0
  | inr q ↦ absurd (q.1 refl)
]

pub begins_same : (c : ℕ) (bytes rest : List ℕ) → bytes ≡ c ∷ rest → begins c bytes ≡ true
begins_same c bytes rest e = ap (begins c) e ∙ eqb_self c

pub drops_to : (c : ℕ) (bytes rest : List ℕ) → bytes ≡ c ∷ rest → drop 1 bytes ≡ rest
drops_to c bytes rest e = ap (λ (x : List ℕ). drop 1 x) e

-- bytes that begin with one byte begin with no other
pub begins_other : (b c : ℕ) (bytes rest : List ℕ) → eqb b c ≡ false → bytes ≡ b ∷ rest → begins c bytes ≡ false
begins_other b c bytes rest other e = ap (begins c) e ∙ other

word_begins : (c : ℕ) (w rest : List ℕ) → is_word_byte c ≡ false → list_all is_word_byte w ≡ true → 0 < length w → begins c (w ++ rest) ≡ false
word_begins c [] rest other h some = absurd (omega (arith, some))
word_begins c (x ∷ w) rest other h some = let a = and_parts (is_word_byte x) (list_all is_word_byte w) h in ne_eqb x c (λ q. not_both (is_word_byte x) a.0 (ap is_word_byte q ∙ other))

pub run_begins : (c : ℕ) (w bytes rest : List ℕ) → is_word_byte c ≡ false → run w bytes rest → begins c bytes ≡ false
run_begins c w bytes rest other r = ap (begins c) r.2 ∙ word_begins c w rest other r.0 r.1

pub byte_stops : (c : ℕ) (bytes rest : List ℕ) → is_blank c ≡ false → bytes ≡ c ∷ rest → Stops is_blank bytes
byte_stops c bytes rest other e = subst (λ (x : List ℕ). Stops is_blank x) (sym e) (head_stop c rest other)

pub byte_shrinks : (c : ℕ) (bytes rest : List ℕ) → bytes ≡ c ∷ rest → length rest < length bytes
byte_shrinks c bytes rest e = omega (arith, ap length e)

-- ---- brackets

pub bracket_sound : (c : ℕ) (bytes : List ℕ) → 0 < c → comes c bytes ≡ true → bracket c bytes (after_bracket bytes)
bracket_sound c bytes some e = (skip_blanks bytes, skipped bytes, begins_is c (skip_blanks bytes) some e)

pub bracket_complete : (c : ℕ) (bytes rest : List ℕ) → is_blank c ≡ false → bracket c bytes rest → (comes c bytes ≡ true) × (after_bracket bytes ≡ rest)
bracket_complete c bytes rest other b =
    let s = skips_to bytes b.0 b.1 (byte_stops c b.0 rest other b.2) in
    (begins_same c (skip_blanks bytes) rest (s ∙ b.2), drops_to c (skip_blanks bytes) rest (s ∙ b.2))

pub bracket_shrinks : (c : ℕ) (bytes rest : List ℕ) → bracket c bytes rest → length rest < length bytes
bracket_shrinks c bytes rest b = omega (arith, blanks_shrink bytes b.0 b.1, byte_shrinks c b.0 rest b.2)

-- ---- what is read after any blanks

pub spaced : (A : Type 0) (here : Parse A) (written : A → Span) → Agrees A here written → ((x : A) (bytes rest : List ℕ) → written x bytes rest → Stops is_blank bytes) → Agrees A (λ bytes. here (skip_blanks bytes)) (λ x. blanks ▸ written x)
spaced A here written agrees stops = record {
  sound = λ x bytes rest e. (skip_blanks bytes, skipped bytes, agrees.sound x (skip_blanks bytes) rest e);
  complete = λ x bytes rest b. ap here (skips_to bytes b.0 b.1 (stops x b.0 rest b.2)) ∙ agrees.complete x b.0 rest b.2;
}
