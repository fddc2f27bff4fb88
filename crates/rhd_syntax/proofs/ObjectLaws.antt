-- The type of a script's object: what is read is what is written.
use Rattle.std.proofs.Common.{◌≡◌, ℕ, Bool, true, false, cond, List, Option, Some, None, refl, ap, subst}
use Rattle.std.specs.Prelude.{codes}
use Rattle.rhd_syntax.specs.Spans.{bare, word, this}
use Rattle.rhd_syntax.specs.Reading.{◌>>=◌, Parse, wording_at, flag_at, this_at}
use Rattle.rhd_syntax.proofs.Agrees.{bind_some, some_pair}
use Rattle.rhd_syntax.proofs.QuoteLaws.{word_agrees}
use Rattle.rhd_syntax.proofs.FlagLaws.{flag_read, flag_there, flag_absent}

abbrev typed_at : Parse (Option (List ℕ))
typed_at after = wording_at after >>= λ s. Some (Some s.0, s.1)

this_found : (found : Bool) (bytes after rest : List ℕ) (t : Option (List ℕ)) → flag_at (codes "this") bytes ≡ (found, after) → cond found (typed_at after) (Some (None, bytes)) ≡ Some (t, rest) → this t bytes rest
this_found true bytes after rest t h e =
    let a = bind_some (wording_at after) (λ s. Some (Some s.0, s.1)) (t, rest) e in
    let p = some_pair (Some a.0.0) t a.0.1 rest a.2 in
    let w = flag_read (codes "this") bytes after true (ap (λ (q : Bool × List ℕ). Some q) h) in
    subst (λ (u : Option (List ℕ)). this u bytes rest) p.0 (after, w, subst (λ (r : List ℕ). word a.0.0 after r) p.1 (word_agrees.sound a.0.0 after a.0.1 a.1))
this_found false bytes after rest t h e =
    let p = some_pair None t bytes rest e in
    subst (λ (u : Option (List ℕ)). this u bytes rest) p.0 p.1

pub this_sound : (t : Option (List ℕ)) (bytes rest : List ℕ) → this_at bytes ≡ Some (t, rest) → this t bytes rest
unfolding this_at
this_sound t bytes rest e = this_found (flag_at (codes "this") bytes).0 bytes (flag_at (codes "this") bytes).1 rest t refl e

pub this_there : (s bytes rest : List ℕ) → this (Some s) bytes rest → this_at bytes ≡ Some (Some s, rest)
unfolding this_at
this_there s bytes rest w = rw (flag_there (codes "this") bytes w.0 w.1, word_agrees.complete s w.0 rest w.2) refl

pub this_absent : (bytes : List ℕ) → ((after : List ℕ) → bare (codes "this") bytes after → ⊥) → this_at bytes ≡ Some (None, bytes)
unfolding this_at
this_absent bytes n = rw (flag_absent (codes "this") bytes n) refl
