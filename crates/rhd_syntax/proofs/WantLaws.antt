-- The kind that is wanted: what is read is what is written.
use Rattle.std.proofs.Common.{◌≡◌, ℕ, ◌<◌, Bool, true, false, cond, List, [], ◌∷◌, ◌++◌, length, drop, Option, Some, None, refl, sym, ap, subst, ◌∙◌, arith}
use Rattle.std.proofs.lemmas.Bool.{eqb-true}
use Rattle.rhd_value.specs.declared.tag.TypeTag.{TypeTag}
use Rattle.rhd_syntax.specs.Bytes.{begins, kind_of}
use Rattle.rhd_syntax.specs.Spans.{bare, NoColon, want}
use Rattle.rhd_syntax.specs.Reading.{◌>>=◌, Parse, skip_blanks, comes, after_bracket, word_at, want_at}
use Rattle.rhd_syntax.proofs.Agrees.{Agrees, bind_some, some_pair}
use Rattle.rhd_syntax.proofs.WordLaws.{bare_agrees, bare_here}
use Rattle.rhd_syntax.proofs.ByteLaws.{not_both, begins_same, bracket_sound, bracket_complete}

-- the first byte of a run is the first byte of a word
run_first : (c : ℕ) (w rest : List ℕ) → 0 < length w → begins c (w ++ rest) ≡ true → w ≡ c ∷ drop 1 w
run_first c [] rest some e = absurd (omega (arith, some))
run_first c (x ∷ w) rest some e = ap (λ (y : ℕ). y ∷ w) (eqb-true x c e)

word_first : (c : ℕ) (w bytes rest : List ℕ) → bare w bytes rest → comes c bytes ≡ true → w ≡ c ∷ drop 1 w
word_first c w bytes rest b h = let r = bare_here w bytes rest b in run_first c w rest r.1 (sym (ap (begins c) r.2) ∙ h)

abbrev colon_at : Parse (Option TypeTag)
colon_at bytes = word_at bytes >>= λ w. kind_of (drop 1 w.0) >>= λ k. Some (Some k, w.1)

pub colon_absent : (bytes : List ℕ) → comes 58 bytes ≡ false → NoColon bytes
colon_absent bytes h = λ after s. not_both (comes 58 bytes) (bracket_complete 58 bytes after refl s).0 h

want_sound : (b : Bool) (k : Option TypeTag) (bytes rest : List ℕ) → comes 58 bytes ≡ b → cond b (colon_at bytes) (Some (None, bytes)) ≡ Some (k, rest) → want k bytes rest
want_sound true k bytes rest h e =
    let a = bind_some (word_at bytes) (λ w. kind_of (drop 1 w.0) >>= λ x. Some (Some x, w.1)) (k, rest) e in
    let b = bind_some (kind_of (drop 1 a.0.0)) (λ x. Some (Some x, a.0.1)) (k, rest) a.2 in
    let p = some_pair (Some b.0) k a.0.1 rest b.2 in
    let w = bare_agrees.sound a.0.0 bytes a.0.1 a.1 in
    let f = word_first 58 a.0.0 bytes a.0.1 w h in
    subst (λ (j : Option TypeTag). want j bytes rest) p.0 (drop 1 a.0.0, b.1, subst (λ (r : List ℕ). bare (58 ∷ drop 1 a.0.0) bytes r) p.1 (subst (λ (v : List ℕ). bare v bytes a.0.1) f w))
want_sound false k bytes rest h e =
    let p = some_pair None k bytes rest e in
    subst (λ (j : Option TypeTag). want j bytes rest) p.0 (p.1, colon_absent bytes h)

pub no_colon : (b : Bool) (bytes : List ℕ) → comes 58 bytes ≡ b → NoColon bytes → b ≡ false
no_colon true bytes h n = absurd (n (after_bracket bytes) (bracket_sound 58 bytes (omega arith) h))
no_colon false bytes h n = refl

want_complete : (k : Option TypeTag) (bytes rest : List ℕ) → want k bytes rest → cond (comes 58 bytes) (colon_at bytes) (Some (None, bytes)) ≡ Some (k, rest)
want_complete (Some k) bytes rest w =
    let h = bare_here (58 ∷ w.0) bytes rest w.2 in
    rw (begins_same 58 (skip_blanks bytes) (w.0 ++ rest) h.2, bare_agrees.complete (58 ∷ w.0) bytes rest w.2, w.1) refl
want_complete None bytes rest w = rw (no_colon (comes 58 bytes) bytes refl w.1) (ap (λ (r : List ℕ). Some (None, r)) w.0)

pub want_agrees : Agrees (Option TypeTag) want_at want
unfolding want_at
want_agrees = record {
  sound = λ k bytes rest e. want_sound (comes 58 bytes) k bytes rest refl e;
  complete = λ k bytes rest w. want_complete k bytes rest w;
}
