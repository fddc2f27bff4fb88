-- The entries of a map: what is read is what is written.
use Rattle.std.proofs.Common.{◌≡◌, ℕ, zero, suc, ◌<◌, ◌≤◌, Bool, true, false, cond, List, [], ◌∷◌, length, Option, Some, refl, sym, ap, subst, ◌∙◌, arith}
use Rattle.std.specs.Prelude.{option_and_then}
use Rattle.rhd_value.specs.Tree.{Bytes, Tree}
use Rattle.rhd_syntax.specs.Maps.{put_new, put_each}
use Rattle.rhd_syntax.specs.Spans.{Span, ◌▸◌, bracket, each, word, pair, pairs}
use Rattle.rhd_syntax.specs.Reading.{◌>>=◌, Parse, both, comes, after_bracket, wording_at, entries_at, members_at}
use Rattle.rhd_syntax.proofs.Agrees.{Agrees, bind_some, same_some, some_pair, cond_some}
use Rattle.rhd_syntax.proofs.ByteLaws.{bracket_sound, bracket_complete}
use Rattle.rhd_syntax.proofs.QuoteLaws.{word_agrees, words_go}
use Rattle.rhd_syntax.proofs.ListLaws.{Goes}

pub both_agree : (A B : Type 0) (p : Parse A) (q : Parse B) (u : A → Span) (v : B → Span) → Agrees A p u → Agrees B q v → Agrees (A × B) (both p q) (λ e. u e.0 ▸ v e.1)
both_agree A B p q u v first second = record {
  sound = λ e bytes rest h.
      let a = bind_some (p bytes) (λ x. q x.1 >>= λ y. Some ((x.0, y.0), y.1)) (e, rest) h in
      let b = bind_some (q a.0.1) (λ y. Some ((a.0.0, y.0), y.1)) (e, rest) a.2 in
      let s = some_pair (a.0.0, b.0.0) e b.0.1 rest b.2 in
      subst (λ (d : A × B). (u d.0 ▸ v d.1) bytes rest) s.0 (a.0.1, first.sound a.0.0 bytes a.0.1 a.1, subst (λ (r : List ℕ). v b.0.0 a.0.1 r) s.1 (second.sound b.0.0 a.0.1 b.0.1 b.1));
  complete = λ e bytes rest w. rw (first.complete e.0 bytes w.0 w.1, second.complete e.1 w.0 rest w.2) refl;
}

-- what reads values and how they are written
pub record Reads (one : Parse Tree) (element : Tree → Span) : Type 0 where
  pub agrees : Agrees Tree one element
  pub shrinks : (t : Tree) (bytes rest : List ℕ) → element t bytes rest → length rest < length bytes

pair_agrees : (one : Parse Tree) (element : Tree → Span) → Reads one element → Agrees (Bytes × Tree) (both wording_at one) (pair element)
pair_agrees one element reads = both_agree Bytes Tree wording_at one word element word_agrees reads.agrees

pair_goes : (one : Parse Tree) (element : Tree → Span) → Reads one element → Goes (Bytes × Tree) (comes 125) (pair element)
pair_goes one element reads = record {
  shrinks = λ e bytes rest w. omega (arith, (words_go 125 refl refl).shrinks e.0 bytes w.0 w.1, reads.shrinks e.1 w.0 rest w.2);
  begun = λ e bytes rest w. (words_go 125 refl refl).begun e.0 bytes w.0 w.1;
}

-- what is read as entries that are put into a map
abbrev Put : (Tree → Span) → List (Bytes × Tree) → List (Bytes × Tree) → List ℕ → List ℕ → Type 0
Put element es fs bytes rest = (ps : List (Bytes × Tree)) × (put_each es ps ≡ Some fs) × each (pair element) ps bytes rest × (comes 125 rest ≡ true)

stopped : (element : Tree → Span) (es fs : List (Bytes × Tree)) (bytes rest : List ℕ) → comes 125 bytes ≡ true → ◌≡◌ {A = Option (List (Bytes × Tree) × List ℕ)} (Some (es, bytes)) (Some (fs, rest)) → Put element es fs bytes rest
stopped element es fs bytes rest h e = let p = some_pair es fs bytes rest e in ([], ap (λ (x : List (Bytes × Tree)). Some x) p.0, p.1, sym (ap (comes 125) p.1) ∙ h)

put_first : (p : Bytes × Tree) (ps es more : List (Bytes × Tree)) → put_new p es ≡ Some more → put_each es (p ∷ ps) ≡ put_each more ps
put_first p ps es more e = ap (λ (o : Option (List (Bytes × Tree))). option_and_then (λ x. put_each x ps) o) e

step : (one : Parse Tree) (element : Tree → Span) (reads : Reads one element) (es fs : List (Bytes × Tree)) (bytes rest : List ℕ) (n : ℕ) (b : Bool)
    → ((more : List (Bytes × Tree)) (middle : List ℕ) → entries_at one more n middle ≡ Some (fs, rest) → Put element more fs middle rest)
    → comes 125 bytes ≡ b → cond b (Some (es, bytes)) (both wording_at one bytes >>= λ e. put_new e.0 es >>= λ more. entries_at one more n e.1) ≡ Some (fs, rest) → Put element es fs bytes rest
step one element reads es fs bytes rest n true ih h e = stopped element es fs bytes rest h e
step one element reads es fs bytes rest n false ih h e =
    let a = bind_some (both wording_at one bytes) (λ x. put_new x.0 es >>= λ more. entries_at one more n x.1) (fs, rest) e in
    let b = bind_some (put_new a.0.0 es) (λ more. entries_at one more n a.0.1) (fs, rest) a.2 in
    let w = (pair_agrees one element reads).sound a.0.0 bytes a.0.1 a.1 in
    let f = ih b.0 a.0.1 b.2 in
    (a.0.0 ∷ f.0, put_first a.0.0 f.0 es b.0 b.1 ∙ f.1, (a.0.1, w, f.2), f.3)

entries_sound : (one : Parse Tree) (element : Tree → Span) (reads : Reads one element) (n : ℕ) (es fs : List (Bytes × Tree)) (bytes rest : List ℕ) → entries_at one es n bytes ≡ Some (fs, rest) → Put element es fs bytes rest
unfolding entries_at
entries_sound one element reads zero es fs bytes rest e = let s = cond_some (comes 125 bytes) (es, bytes) (fs, rest) e in stopped element es fs bytes rest s.0 (ap (λ (p : List (Bytes × Tree) × List ℕ). Some p) s.1)
entries_sound one element reads (suc n) es fs bytes rest e = step one element reads es fs bytes rest n (comes 125 bytes) (λ more middle f. entries_sound one element reads n more fs middle rest f) refl e

entries_complete : (one : Parse Tree) (element : Tree → Span) (reads : Reads one element) (ps es fs : List (Bytes × Tree)) (n : ℕ) (bytes rest : List ℕ) → length bytes ≤ n → put_each es ps ≡ Some fs → each (pair element) ps bytes rest → comes 125 rest ≡ true → entries_at one es n bytes ≡ Some (fs, rest)
unfolding entries_at
entries_complete one element reads [] es fs zero bytes rest long p w h = rw (ap (comes 125) w ∙ h, same_some es fs p, w) refl
entries_complete one element reads [] es fs (suc n) bytes rest long p w h = rw (ap (comes 125) w ∙ h, same_some es fs p, w) refl
entries_complete one element reads (q ∷ ps) es fs zero bytes rest long p w h = absurd (omega (arith, long, (pair_goes one element reads).shrinks q bytes w.0 w.1))
entries_complete one element reads (q ∷ ps) es fs (suc n) bytes rest long p w h =
    let a = bind_some (put_new q es) (λ more. put_each more ps) fs p in
    let ih = entries_complete one element reads ps a.0 fs n w.0 rest (omega (arith, long, (pair_goes one element reads).shrinks q bytes w.0 w.1)) a.2 w.2 h in
    rw ((pair_goes one element reads).begun q bytes w.0 w.1, (pair_agrees one element reads).complete q bytes w.0 w.1, a.1) ih

pub members_agree : (one : Parse Tree) (element : Tree → Span) (reads : Reads one element) → Agrees (List (Bytes × Tree)) (members_at one) (λ es. pairs element es ▸ bracket 125)
unfolding members_at
members_agree one element reads = record {
  sound = λ es bytes rest e.
      let a = bind_some (entries_at one [] (length bytes) bytes) (λ x. Some (x.0, after_bracket x.1)) (es, rest) e in
      let p = some_pair a.0.0 es (after_bracket a.0.1) rest a.2 in
      let f = entries_sound one element reads (length bytes) [] a.0.0 bytes a.0.1 a.1 in
      (a.0.1, (f.0, f.1 ∙ ap (λ (x : List (Bytes × Tree)). Some x) p.0, f.2), subst (λ (r : List ℕ). bracket 125 a.0.1 r) p.1 (bracket_sound 125 a.0.1 (omega arith) f.3));
  complete = λ es bytes rest w.
      let b = bracket_complete 125 w.0 rest refl w.2 in
      rw (entries_complete one element reads w.1.0 [] es (length bytes) bytes w.0 (omega arith) w.1.1 w.1.2 b.0, b.1) refl;
}
