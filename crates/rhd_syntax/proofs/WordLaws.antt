-- Blanks and words.
use Rattle.std.proofs.Common.{◌≡◌, ℕ, zero, suc, ◌+◌, ◌<◌, ◌≤◌, Bool, true, false, cond, eqb, ltb, not, ◌&&◌, ◌||◌, List, [], ◌∷◌, ◌++◌, length, take, drop, Option, Some, None, refl, sym, ap, subst, ◌∙◌, arith, length-append}
use Rattle.std.specs.List.{list_all, prefix_len}
use Rattle.std.proofs.Math.Seq.{take-append_seam, drop-append_seam}
use Rattle.std.proofs.lemmas.Bool.{ne_eqb, lt-ltb, ltb-true}
use Rattle.rhd_syntax.specs.Bytes.{is_blank, is_bracket, is_word_byte, may_end}
use Rattle.rhd_syntax.specs.Spans.{Span, blanks, run, bare}
use Rattle.rhd_syntax.specs.Reading.{◌>>=◌, Parse, skip_blanks, is_end, run_at, word_at}
use Rattle.rhd_syntax.proofs.Agrees.{Agrees, bind_some, some_pair, cond_some, and_parts}

-- ---- the longest front of bytes of one kind

pub Stops : (ℕ → Bool) → List ℕ → Type 0
Stops p [] = Unit {0}
Stops p (b ∷ bytes) = p b ≡ false

pub stops_nil : (p : ℕ → Bool) → Stops p []
unfolding Stops
stops_nil p = tt

head_all : (p : ℕ → Bool) (x : ℕ) (xs : List ℕ) (b : Bool) → p x ≡ b → list_all p (take (prefix_len p xs) xs) ≡ true → list_all p (take (prefix_len p (x ∷ xs)) (x ∷ xs)) ≡ true
head_all p x xs true e ih = let k : 1 + prefix_len p xs ≡ suc (prefix_len p xs) = omega arith in rw (e, k, e, ih) refl
head_all p x xs false e ih = rw e refl

pub prefix_all : (p : ℕ → Bool) (xs : List ℕ) → list_all p (take (prefix_len p xs) xs) ≡ true
prefix_all p [] = refl
prefix_all p (x ∷ xs) = head_all p x xs (p x) refl (prefix_all p xs)

pub rejoined : (n : ℕ) (xs : List ℕ) → xs ≡ take n xs ++ drop n xs
rejoined zero xs = refl
rejoined (suc n) [] = refl
rejoined (suc n) (x ∷ xs) = ap (λ (ys : List ℕ). x ∷ ys) (rejoined n xs)

pub prefix_is : (p : ℕ → Bool) (w rest : List ℕ) → list_all p w ≡ true → Stops p rest → prefix_len p (w ++ rest) ≡ length w
unfolding Stops
prefix_is p [] [] h s = refl
prefix_is p [] (b ∷ rest) h s = rw s refl
prefix_is p (c ∷ w) rest h s =
    let a = and_parts (p c) (list_all p w) h in
    let ih = prefix_is p w rest a.1 s in
    rw (a.0, ih) (omega arith)

-- ---- blanks

pub skipped : (bytes : List ℕ) → blanks bytes (skip_blanks bytes)
skipped bytes = (take (prefix_len is_blank bytes) bytes, prefix_all is_blank bytes, rejoined (prefix_len is_blank bytes) bytes)

pub skips_to : (bytes rest : List ℕ) → blanks bytes rest → Stops is_blank rest → skip_blanks bytes ≡ rest
skips_to bytes rest b s =
    let n : prefix_len is_blank (b.0 ++ rest) ≡ length b.0 = prefix_is is_blank b.0 rest b.1 s in
    ap skip_blanks b.2 ∙ (rw n (drop-append_seam b.0 rest))

pub blanks_shrink : (bytes rest : List ℕ) → blanks bytes rest → length rest ≤ length bytes
blanks_shrink bytes rest b = omega (arith, ap length b.2, length-append b.0 rest)

no_length : (xs : List ℕ) → eqb (length xs) 0 ≡ true → xs ≡ []
no_length [] e = refl
no_length (x ∷ xs) e = let f : eqb (length (x ∷ xs)) 0 ≡ false = ne_eqb _ _ (λ q. omega (arith, q)) in absurd (cc)

pub end_sound : (bytes : List ℕ) → is_end bytes ≡ true → blanks bytes []
end_sound bytes e = let s = skipped bytes in (s.0, s.1, s.2 ∙ ap (λ (r : List ℕ). s.0 ++ r) (no_length (skip_blanks bytes) e))

pub end_complete : (bytes : List ℕ) → blanks bytes [] → is_end bytes ≡ true
end_complete bytes b = rw (skips_to bytes [] b (stops_nil is_blank)) refl

-- ---- runs

stops_word : (rest : List ℕ) → may_end rest ≡ true → Stops is_word_byte rest
unfolding Stops
stops_word [] e = tt
stops_word (b ∷ rest) e = rw e refl

some_run : (c d : Bool) (x y : List ℕ × List ℕ) → cond (c && d) (Some x) None ≡ Some y → (c ≡ true) × (d ≡ true) × (x ≡ y)
some_run c d x y e = let s = cond_some (c && d) x y e in let a = and_parts c d s.0 in (a.0, a.1, s.1)

length_take_pos : (n : ℕ) (xs : List ℕ) → 0 < n → n ≤ length xs → 0 < length (take n xs)
length_take_pos zero xs h le = absurd (omega (arith, h))
length_take_pos (suc n) [] h le = absurd (omega (arith, le))
length_take_pos (suc n) (x ∷ xs) h le = omega arith

head_within : (p : ℕ → Bool) (x : ℕ) (xs : List ℕ) (b : Bool) → p x ≡ b → prefix_len p xs ≤ length xs → prefix_len p (x ∷ xs) ≤ length (x ∷ xs)
head_within p x xs true e ih = rw e (omega (arith, ih))
head_within p x xs false e ih = rw e (omega arith)

prefix_within : (p : ℕ → Bool) (xs : List ℕ) → prefix_len p xs ≤ length xs
prefix_within p [] = omega arith
prefix_within p (x ∷ xs) = head_within p x xs (p x) refl (prefix_within p xs)

pub run_agrees : Agrees (List ℕ) run_at run
run_agrees = record {
  sound = λ w bytes rest e.
      let n = prefix_len is_word_byte bytes in
      let s = some_run (ltb 0 n) (may_end (drop n bytes)) (take n bytes, drop n bytes) (w, rest) e in
      let front : take n bytes ≡ w = ap (λ (x : List ℕ × List ℕ). x.0) s.2 in
      let back : drop n bytes ≡ rest = ap (λ (x : List ℕ × List ℕ). x.1) s.2 in (
        sym (ap (list_all is_word_byte) front) ∙ prefix_all is_word_byte bytes,
        rw (← front) (length_take_pos n bytes (ltb-true _ _ s.0) (prefix_within is_word_byte bytes)),
        rw (← front, ← back) (rejoined n bytes),
        rw (← back) s.1,
      );
  complete = λ w bytes rest r.
      let n : prefix_len is_word_byte (w ++ rest) ≡ length w = prefix_is is_word_byte w rest r.0 (stops_word rest r.3) in
      let t : take (length w) (w ++ rest) ≡ w = take-append_seam w rest in
      let d : drop (length w) (w ++ rest) ≡ rest = drop-append_seam w rest in
      let k : ltb 0 (length w) ≡ true = lt-ltb 0 (length w) r.1 in
      ap run_at r.2 ∙ rw (n, d, t, k, r.3) refl;
}

not_blank : (a b c d : Bool) → not (((a || b) || c) || d) ≡ true → a ≡ false
not_blank true b c d e = absurd cc
not_blank false b c d e = refl

word_stops : (w rest : List ℕ) → list_all is_word_byte w ≡ true → 0 < length w → Stops is_blank (w ++ rest)
unfolding Stops
word_stops [] rest h some = absurd (omega (arith, some))
word_stops (c ∷ w) rest h some = let a = and_parts (is_word_byte c) (list_all is_word_byte w) h in not_blank (is_blank c) (is_bracket c) (eqb c 34) (eqb c 39) a.0

pub run_stops : (w bytes rest : List ℕ) → run w bytes rest → Stops is_blank bytes
run_stops w bytes rest r = rw r.2 (word_stops w rest r.0 r.1)

pub run_shrinks : (w bytes rest : List ℕ) → run w bytes rest → length rest < length bytes
run_shrinks w bytes rest r = omega (arith, r.1, ap length r.2, length-append w rest)

-- what begins after the blanks
pub head_stop : (c : ℕ) (rest : List ℕ) → is_blank c ≡ false → Stops is_blank (c ∷ rest)
unfolding Stops
head_stop c rest other = other

-- ---- bare words

pub bare_agrees : Agrees (List ℕ) word_at bare
unfolding word_at
bare_agrees = record {
  sound = λ w bytes rest e. (skip_blanks bytes, skipped bytes, run_agrees.sound w (skip_blanks bytes) rest e);
  complete = λ w bytes rest b. ap run_at (skips_to bytes b.0 b.1 (run_stops w b.0 rest b.2)) ∙ run_agrees.complete w b.0 rest b.2;
}

pub bare_shrinks : (w bytes rest : List ℕ) → bare w bytes rest → length rest < length bytes
bare_shrinks w bytes rest b = omega (arith, blanks_shrink bytes b.0 b.1, run_shrinks w b.0 rest b.2)

-- a word with a meaning
pub meaning_agrees : (A : Type 0) (of : List ℕ → Option A) (read : Parse (List ℕ)) (span : List ℕ → Span) → Agrees (List ℕ) read span
    → Agrees A (λ bytes. read bytes >>= λ w. of w.0 >>= λ x. Some (x, w.1)) (λ x bytes rest. (w : List ℕ) × (of w ≡ Some x) × span w bytes rest)
meaning_agrees A of read span agrees = record {
  sound = λ x bytes rest e.
      let a = bind_some (read bytes) (λ w. of w.0 >>= λ y. Some (y, w.1)) (x, rest) e in
      let b = bind_some (of a.0.0) (λ y. Some (y, a.0.1)) (x, rest) a.2 in
      let p = some_pair b.0 x a.0.1 rest b.2 in
      (a.0.0, b.1 ∙ ap (λ (y : A). Some y) p.0, subst (λ (r : List ℕ). span a.0.0 bytes r) p.1 (agrees.sound a.0.0 bytes a.0.1 a.1));
  complete = λ x bytes rest m. rw (agrees.complete m.0 bytes rest m.2, m.1) refl;
}

-- where a bare word begins
pub bare_here : (w bytes rest : List ℕ) → bare w bytes rest → run w (skip_blanks bytes) rest
bare_here w bytes rest b = subst (λ (m : List ℕ). run w m rest) (sym (skips_to bytes b.0 b.1 (run_stops w b.0 rest b.2))) b.2

pub no_word : (w bytes after : List ℕ) → blanks bytes [] → bare w bytes after → ⊥
no_word w bytes after b o =
    let r : run w [] after = subst (λ (m : List ℕ). run w m after) (skips_to bytes [] b (stops_nil is_blank)) (bare_here w bytes after o) in
    absurd (omega (arith, run_shrinks w [] after r))

not_end : (b : Bool) (w bytes rest : List ℕ) → is_end bytes ≡ b → bare w bytes rest → b ≡ false
not_end true w bytes rest e o = absurd (no_word w bytes rest (end_sound bytes e) o)
not_end false w bytes rest e o = refl

-- where a bare word stands, the line has not ended
pub bare_begun : (w bytes rest : List ℕ) → bare w bytes rest → is_end bytes ≡ false
bare_begun w bytes rest o = not_end (is_end bytes) w bytes rest refl o
