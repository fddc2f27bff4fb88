-- Texts, quoted or not.
use Rattle.std.proofs.Common.{◌≡◌, ℕ, ◌<◌, Bool, true, false, cond, eqb, List, [], ◌∷◌, length, Option, Some, None, refl, sym, ap, subst, ◌∙◌, arith, inl, inr, drop}
use Rattle.std.specs.Str.{is_utf8}
use Rattle.std.proofs.lemmas.Bool.{ne_eqb}
use Rattle.std.proofs.lemmas.Bool.Decides.{eqb_tells}
use Rattle.rhd_syntax.specs.Bytes.{is_blank, is_word_byte, may_end, begins, unescaped}
use Rattle.rhd_syntax.specs.Spans.{Span, letter, letters_to, either, run, quotation, unquoted, word, words}
use Rattle.rhd_syntax.specs.Reading.{◌>>=◌, run_at, put, text_at, text_of, quoted_at, plain_text_at, text_here, wording_at, comes, texts_at}
use Rattle.rhd_syntax.proofs.Agrees.{Agrees, bind_some, some_pair, cond_some}
use Rattle.rhd_syntax.proofs.WordLaws.{Stops, run_agrees, run_stops, skips_to, blanks_shrink, run_shrinks}
use Rattle.rhd_syntax.proofs.ListLaws.{Goes}
use Rattle.rhd_syntax.proofs.BracketLaws.{bracketed_agrees}
use Rattle.rhd_syntax.proofs.ByteLaws.{eqb_self, begins_is, begins_same, drops_to, run_begins, byte_stops, byte_shrinks, spaced, begins_other}

put_some : (o : Option ℕ) (read : Option (List ℕ × List ℕ)) (t r : List ℕ) → put o read ≡ Some (t, r) → (c : ℕ) × (u : List ℕ) × (o ≡ Some c) × (read ≡ Some (u, r)) × (t ≡ c ∷ u)
put_some (Some c) (Some (u, s)) t r e = let p = some_pair (c ∷ u) t s r e in (c, u, refl, ap (λ (x : List ℕ). Some (u, x)) p.1, sym p.0)
put_some (Some c) None t r e = absurd cc
put_some None read t r e = absurd cc

-- a letter after a backslash, and the letters after it
abbrev Escaped : ℕ → List ℕ → List ℕ → List ℕ → Type 0
Escaped q t bytes r = (e : ℕ) × (c : ℕ) × (u : List ℕ) × (m : List ℕ) × (bytes ≡ e ∷ m) × (unescaped e ≡ Some c) × (t ≡ c ∷ u) × letters_to q u m r

same_some_nat : (b c : ℕ) → Some b ≡ Some c → b ≡ c
same_some_nat b c e = cc

plain_step : (k b : ℕ) (bytes t r : List ℕ) → ((u s : List ℕ) → text_at k false bytes ≡ Some (u, s) → letters_to k u bytes s) → ((u s : List ℕ) → text_at k true bytes ≡ Some (u, s) → Escaped k u bytes s) → text_at k false (b ∷ bytes) ≡ Some (t, r) → letters_to k t (b ∷ bytes) r
plain_step k b bytes t r next escape e =
    elim (eqb_tells b k) [
      | inl q ↦
          let f : ◌≡◌ {A = Option (List ℕ × List ℕ)} (Some ([], bytes)) (Some (t, r)) = rw q.0 at e in
          let p = some_pair [] t bytes r f in
          subst (λ (x : List ℕ). letters_to k x (b ∷ bytes) r) p.0 (ap (λ (x : ℕ). x ∷ bytes) q.1 ∙ ap (λ (x : List ℕ). k ∷ x) p.1)
      | inr q ↦ elim (eqb_tells b 92) [
        | inl s ↦
            let f : text_at k true bytes ≡ Some (t, r) = rw (q.0, s.0) at e in
            let x = escape t r f in
            subst (λ (y : List ℕ). letters_to k y (b ∷ bytes) r) (sym x.6) (x.3, inr (x.0, x.5, ap (λ (y : ℕ). y ∷ bytes) s.1 ∙ ap (λ (y : List ℕ). 92 ∷ y) x.4), x.7)
        | inr s ↦
            let f : put (Some b) (text_at k false bytes) ≡ Some (t, r) = rw (q.0, s.0) at e in
            let x = put_some (Some b) (text_at k false bytes) t r f in
            let c = same_some_nat b x.0 x.2 in
            subst (λ (y : List ℕ). letters_to k y (b ∷ bytes) r) (ap (λ (y : ℕ). y ∷ x.1) c ∙ sym x.4) (bytes, inl (q.1, s.1, refl), next x.1 r x.3)
      ]
    ]

escape_step : (k b : ℕ) (bytes t r : List ℕ) → ((u s : List ℕ) → text_at k false bytes ≡ Some (u, s) → letters_to k u bytes s) → text_at k true (b ∷ bytes) ≡ Some (t, r) → Escaped k t (b ∷ bytes) r
escape_step k b bytes t r next e =
    let x = put_some (unescaped b) (text_at k false bytes) t r e in
    (b, x.0, x.1, bytes, refl, x.2, x.4, next x.1 r x.3)

mutual
  text_sound : (k : ℕ) (bytes t r : List ℕ) → text_at k false bytes ≡ Some (t, r) → letters_to k t bytes r
  text_sound k [] t r e = absurd cc
  text_sound k (b ∷ bytes) t r e = plain_step k b bytes t r (text_sound k bytes) (escape_sound k bytes) e

  escape_sound : (k : ℕ) (bytes t r : List ℕ) → text_at k true bytes ≡ Some (t, r) → Escaped k t bytes r
  escape_sound k [] t r e = absurd cc
  escape_sound k (b ∷ bytes) t r e = escape_step k b bytes t r (text_sound k bytes) e

letter_then : (k c : ℕ) (t bytes m r : List ℕ) → eqb 92 k ≡ false → letter k c bytes m → text_at k false m ≡ Some (t, r) → text_at k false bytes ≡ Some (c ∷ t, r)
letter_then k c t bytes m r other (inl l) ih = ap (text_at k false) l.2 ∙ rw (ne_eqb c k l.0, ne_eqb c 92 l.1, ih) refl
letter_then k c t bytes m r other (inr l) ih = ap (text_at k false) l.2 ∙ rw (other, l.1, ih) refl

text_complete : (k : ℕ) (t bytes r : List ℕ) → eqb 92 k ≡ false → letters_to k t bytes r → text_at k false bytes ≡ Some (t, r)
text_complete k [] bytes r other l = ap (text_at k false) l ∙ rw (eqb_self k) refl
text_complete k (c ∷ t) bytes r other l = letter_then k c t bytes l.0 r other l.1 (text_complete k t l.0 r other l.2)

-- the letters of a quotation, and what stands after it
abbrev pub tail_of : ℕ → List ℕ → Span
tail_of k s bytes rest = (is_utf8 s ≡ true) × letters_to k s bytes rest × (may_end rest ≡ true)

end_test : (b : Bool) (o : Option (List ℕ × List ℕ)) (x : List ℕ × List ℕ) → cond b o None ≡ Some x → (b ≡ true) × (o ≡ Some x)
end_test true o x e = (refl, e)
end_test false o x e = absurd cc

pub tails_agree : (k : ℕ) → eqb 92 k ≡ false → Agrees (List ℕ) (quoted_at k) (tail_of k)
unfolding quoted_at
tails_agree k other = record {
  sound = λ s bytes rest e.
      let a = bind_some (text_at k false bytes) (λ t. cond (may_end t.1) (text_of t.0 >>= λ u. Some (u, t.1)) None) (s, rest) e in
      let b = end_test (may_end a.0.1) (text_of a.0.0 >>= λ u. Some (u, a.0.1)) (s, rest) a.2 in
      let d = bind_some (text_of a.0.0) (λ u. Some (u, a.0.1)) (s, rest) b.1 in
      let p = some_pair d.0 s a.0.1 rest d.2 in
      let u = cond_some (is_utf8 a.0.0) a.0.0 d.0 d.1 in
      let same : a.0.0 ≡ s = u.1 ∙ p.0 in (
        subst (λ (x : List ℕ). is_utf8 x ≡ true) same u.0,
        subst (λ (x : List ℕ). letters_to k x bytes rest) same (subst (λ (r : List ℕ). letters_to k a.0.0 bytes r) p.1 (text_sound k bytes a.0.0 a.0.1 a.1)),
        subst (λ (r : List ℕ). may_end r ≡ true) p.1 b.0,
      );
  complete = λ s bytes rest l. rw (text_complete k s bytes rest other l.1, l.2, l.0) refl;
}

pub tail_agrees : Agrees (List ℕ) (quoted_at 34) (tail_of 34)
tail_agrees = tails_agree 34 refl

letter_shrinks : (k c : ℕ) (bytes rest : List ℕ) → letter k c bytes rest → length rest < length bytes
letter_shrinks k c bytes rest (inl l) = omega (arith, ap length l.2)
letter_shrinks k c bytes rest (inr l) = omega (arith, ap length l.2)

pub letters_shrink : (k : ℕ) (s bytes rest : List ℕ) → letters_to k s bytes rest → length rest < length bytes
letters_shrink k [] bytes rest l = byte_shrinks k bytes rest l
letters_shrink k (c ∷ s) bytes rest l = omega (arith, letter_shrinks k c bytes l.0 l.1, letters_shrink k s l.0 rest l.2)

-- ---- texts, quoted or not

pub quotation_stops : (s bytes rest : List ℕ) → quotation s bytes rest → Stops is_blank bytes
quotation_stops s bytes rest q = byte_stops 34 bytes q.1.0 refl q.1.1

plain_sound : (s bytes rest : List ℕ) → plain_text_at bytes ≡ Some (s, rest) → unquoted s bytes rest
plain_sound s bytes rest e =
    let a = bind_some (run_at bytes) (λ w. text_of w.0 >>= λ u. Some (u, w.1)) (s, rest) e in
    let d = bind_some (text_of a.0.0) (λ u. Some (u, a.0.1)) (s, rest) a.2 in
    let p = some_pair d.0 s a.0.1 rest d.2 in
    let u = cond_some (is_utf8 a.0.0) a.0.0 d.0 d.1 in
    let same : a.0.0 ≡ s = u.1 ∙ p.0 in (
      subst (λ (x : List ℕ). is_utf8 x ≡ true) same u.0,
      subst (λ (x : List ℕ). run x bytes rest) same (subst (λ (r : List ℕ). run a.0.0 bytes r) p.1 (run_agrees.sound a.0.0 bytes a.0.1 a.1)),
    )

wording_sound : (b : Bool) (s bytes rest : List ℕ) → begins 34 bytes ≡ b → cond b (quoted_at 34 (drop 1 bytes)) (plain_text_at bytes) ≡ Some (s, rest) → either (unquoted s) (quotation s) bytes rest
wording_sound true s bytes rest h e = let w = tail_agrees.sound s (drop 1 bytes) rest e in inr (w.0, (drop 1 bytes, begins_is 34 bytes (omega arith) h, w.1), w.2)
wording_sound false s bytes rest h e = inl (plain_sound s bytes rest e)

wording_complete : (s bytes rest : List ℕ) → either (unquoted s) (quotation s) bytes rest → text_here bytes ≡ Some (s, rest)
unfolding text_here
wording_complete s bytes rest (inl r) = rw (run_begins 34 s bytes rest refl r.1, run_agrees.complete s bytes rest r.1, r.0) refl
wording_complete s bytes rest (inr q) = rw (begins_same 34 bytes q.1.0 q.1.1, drops_to 34 bytes q.1.0 q.1.1) (tail_agrees.complete s q.1.0 rest (q.0, q.1.2, q.2))

wording_stops : (s bytes rest : List ℕ) → either (unquoted s) (quotation s) bytes rest → Stops is_blank bytes
wording_stops s bytes rest (inl r) = run_stops s bytes rest r.1
wording_stops s bytes rest (inr q) = quotation_stops s bytes rest q

here_agrees : Agrees (List ℕ) text_here (λ s. either (unquoted s) (quotation s))
unfolding text_here
here_agrees = record {
  sound = λ s bytes rest e. wording_sound (begins 34 bytes) s bytes rest refl e;
  complete = λ s bytes rest w. wording_complete s bytes rest w;
}

pub word_agrees : Agrees (List ℕ) wording_at word
unfolding wording_at
word_agrees = spaced (List ℕ) text_here (λ s. either (unquoted s) (quotation s)) here_agrees (λ s bytes rest w. wording_stops s bytes rest w)

-- ---- texts between round brackets

pub wording_shrinks : (s bytes rest : List ℕ) → either (unquoted s) (quotation s) bytes rest → length rest < length bytes
wording_shrinks s bytes rest (inl r) = run_shrinks s bytes rest r.1
wording_shrinks s bytes rest (inr q) = omega (arith, byte_shrinks 34 bytes q.1.0 q.1.1, letters_shrink 34 s q.1.0 rest q.1.2)

wording_begins : (k : ℕ) (s bytes rest : List ℕ) → is_word_byte k ≡ false → eqb 34 k ≡ false → either (unquoted s) (quotation s) bytes rest → begins k bytes ≡ false
wording_begins k s bytes rest dark other (inl r) = run_begins k s bytes rest dark r.1
wording_begins k s bytes rest dark other (inr q) = begins_other 34 k bytes q.1.0 other q.1.1

-- a text takes bytes, and does not begin with this one
pub words_go : (k : ℕ) → is_word_byte k ≡ false → eqb 34 k ≡ false → Goes (List ℕ) (comes k) word
words_go k dark other = record {
  shrinks = λ s bytes rest w. omega (arith, blanks_shrink bytes w.0 w.1, wording_shrinks s w.0 rest w.2);
  begun = λ s bytes rest w. ap (begins k) (skips_to bytes w.0 w.1 (wording_stops s w.0 rest w.2)) ∙ wording_begins k s w.0 rest dark other w.2;
}

word_goes : Goes (List ℕ) (comes 41) word
word_goes = words_go 41 refl refl

pub words_agree : Agrees (List (List ℕ)) texts_at words
unfolding texts_at
words_agree = bracketed_agrees (List ℕ) wording_at word word_agrees word_goes
