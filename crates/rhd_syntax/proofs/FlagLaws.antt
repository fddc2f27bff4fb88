-- Words that may be left out.
use Rattle.std.proofs.Common.{◌≡◌, ℕ, zero, suc, ◌≤◌, Bool, true, false, ◌&&◌, ◌==◌, cond, List, [], ◌∷◌, take, drop, length, slice_index_or, nat_eq, nat_lt, Option, Some, None, refl, sym, ap, subst, eq-eqb, true≢false, arith, ◌∙◌}
use Rattle.std.specs.Prelude.{if◌then◌else◌}
use Rattle.std.specs.List.{prefix_len}
use Rattle.std.specs.Str.{bytes_eq}
use Rattle.std.proofs.lemmas.Slice.Eq.{bytes_eq-Decides}
use Rattle.rhd_syntax.specs.Spans.{bare, optional}
use Rattle.rhd_syntax.specs.Bytes.{is_word_byte, may_end}
use Rattle.rhd_syntax.specs.Reading.{skip_blanks, run_at, word_at, flag_of, flag_at}
use Rattle.rhd_syntax.proofs.Agrees.{same_some, some_pair}
use Rattle.rhd_syntax.proofs.WordLaws.{bare_agrees}
use Rattle.rhd_syntax.proofs.ByteLaws.{not_both}

other_word : (b : Bool) (w v after bytes : List ℕ) → word_at bytes ≡ Some (v, after) → bytes_eq v w ≡ b → ((r : List ℕ) → bare w bytes r → ⊥) → ◌≡◌ {A = Bool × List ℕ} (cond b (true, after) (false, bytes)) (false, bytes)
other_word true w v after bytes h t n = absurd (n after (subst (λ (u : List ℕ). bare u bytes after) ((bytes_eq-Decides v w).0 t) (bare_agrees.sound v bytes after h)))
other_word false w v after bytes h t n = refl

flag_found : (b : Bool) (w v after bytes rest : List ℕ) (x : Bool) → word_at bytes ≡ Some (v, after) → bytes_eq v w ≡ b → ◌≡◌ {A = Bool × List ℕ} (cond b (true, after) (false, bytes)) (x, rest) → optional w x bytes rest
flag_found true w v after bytes rest x h t e =
    let same = (bytes_eq-Decides v w).0 t in
    let px : true ≡ x = ap (λ (q : Bool × List ℕ). q.0) e in
    let pr : after ≡ rest = ap (λ (q : Bool × List ℕ). q.1) e in
    subst (λ (y : Bool). optional w y bytes rest) px (subst (λ (r : List ℕ). bare w bytes r) pr (subst (λ (u : List ℕ). bare u bytes after) same (bare_agrees.sound v bytes after h)))
flag_found false w v after bytes rest x h t e =
    let px : false ≡ x = ap (λ (q : Bool × List ℕ). q.0) e in
    let pr : bytes ≡ rest = ap (λ (q : Bool × List ℕ). q.1) e in
    subst (λ (y : Bool). optional w y bytes rest) px pr

flag_sound : (o : Option (List ℕ × List ℕ)) (w bytes rest : List ℕ) (x : Bool) → word_at bytes ≡ o → ◌≡◌ {A = Bool × List ℕ} (flag_of w bytes o) (x, rest) → optional w x bytes rest
flag_sound None w bytes rest x h e =
    let px : false ≡ x = ap (λ (q : Bool × List ℕ). q.0) e in
    let pr : bytes ≡ rest = ap (λ (q : Bool × List ℕ). q.1) e in
    subst (λ (y : Bool). optional w y bytes rest) px pr
flag_sound (Some (v, after)) w bytes rest x h e = flag_found (bytes_eq v w) w v after bytes rest x h refl e

flag_other : (o : Option (List ℕ × List ℕ)) (w bytes : List ℕ) → word_at bytes ≡ o → ((after : List ℕ) → bare w bytes after → ⊥) → flag_of w bytes o ≡ (false, bytes)
flag_other None w bytes h n = refl
flag_other (Some (v, after)) w bytes h n = other_word (bytes_eq v w) w v after bytes h refl n

pub flag_read : (w bytes rest : List ℕ) (x : Bool) → ◌≡◌ {A = Option (Bool × List ℕ)} (Some (flag_at w bytes)) (Some (x, rest)) → optional w x bytes rest
unfolding flag_at
flag_read w bytes rest x e = flag_sound (word_at bytes) w bytes rest x refl (same_some (flag_at w bytes) (x, rest) e)

pub flag_there : (w bytes rest : List ℕ) → bare w bytes rest → flag_at w bytes ≡ (true, rest)
unfolding flag_at
flag_there w bytes rest o = rw (bare_agrees.complete w bytes rest o, (bytes_eq-Decides w w).1 refl) refl

pub flag_absent : (w bytes : List ℕ) → ((after : List ℕ) → bare w bytes after → ⊥) → flag_at w bytes ≡ (false, bytes)
unfolding flag_at
flag_absent w bytes n = flag_other (word_at bytes) w bytes refl n

-- two words are not written at one place
pub not_word : (w v after rest bytes : List ℕ) → bytes_eq v w ≡ false → bare v bytes rest → bare w bytes after → ⊥
not_word w v after rest bytes f o u =
    let e : ◌≡◌ {A = Option (List ℕ × List ℕ)} (Some (v, rest)) (Some (w, after)) = sym (bare_agrees.complete v bytes rest o) ∙ bare_agrees.complete w bytes after u in
    not_both (bytes_eq v w) ((bytes_eq-Decides v w).1 (some_pair v w rest after e).0) f

-- Whether the next word begins as another one does.
module _ (w0 b0 : ℕ) (ws bs bytes : List ℕ) (apart : (b0 == w0) ≡ false) where
  other_bytes : (n : ℕ) (b : Bool) (after : List ℕ) → bytes_eq (take n (b0 ∷ bs)) (w0 ∷ ws) ≡ b → ◌≡◌ {A = Bool × List ℕ} (cond b (true, after) (false, bytes)) (false, bytes)
  other_bytes zero true after e =
      let same : [] ≡ w0 ∷ ws = (bytes_eq-Decides [] (w0 ∷ ws)).0 e in
      absurd cc
  other_bytes (suc n) true after e =
      let same : b0 ∷ take n bs ≡ w0 ∷ ws = (bytes_eq-Decides (b0 ∷ take n bs) (w0 ∷ ws)).0 e in
      let first : b0 ≡ w0 = cc in
      absurd (true≢false (sym (eq-eqb b0 w0 first) ∙ apart))
  other_bytes n false after e = refl

  run_apart : (n : ℕ) (some ends : Bool) → flag_of (w0 ∷ ws) bytes (if some && ends then Some (take n (b0 ∷ bs), drop n (b0 ∷ bs)) else None) ≡ (false, bytes)
  run_apart n true true = other_bytes n (bytes_eq (take n (b0 ∷ bs)) (w0 ∷ ws)) (drop n (b0 ∷ bs)) refl
  run_apart n true false = refl
  run_apart n false ends = refl

  -- a word whose first byte isn't that of the next word isn't the next word
  pub flag_apart : skip_blanks bytes ≡ b0 ∷ bs → flag_at (w0 ∷ ws) bytes ≡ (false, bytes)
  unfolding flag_at word_at
  flag_apart is =
      ap (λ (r : List ℕ). flag_of (w0 ∷ ws) bytes (run_at r)) is
      ∙ run_apart (prefix_len is_word_byte (b0 ∷ bs)) (nat_lt 0 (prefix_len is_word_byte (b0 ∷ bs))) (may_end (drop (prefix_len is_word_byte (b0 ∷ bs)) (b0 ∷ bs)))

pub flag_apart_at : (word next bytes : List ℕ) → 1 ≤ length next → 1 ≤ length word → nat_eq (slice_index_or next 0 0) (slice_index_or word 0 0) ≡ false → next ≡ skip_blanks bytes → flag_at word bytes ≡ (false, bytes)
flag_apart_at [] next bytes l m apart is = absurd (omega (arith, m))
flag_apart_at (w0 ∷ ws) [] bytes l m apart is = absurd (omega (arith, l))
flag_apart_at (w0 ∷ ws) (b0 ∷ bs) bytes l m apart is = flag_apart w0 b0 ws bs bytes apart (sym is)
