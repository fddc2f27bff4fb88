-- Elements between round brackets.
use Rattle.std.proofs.Common.{◌≡◌, ℕ, Bool, true, false, cond, List, [], length, Some, None, refl, subst, arith}
use Rattle.rhd_syntax.specs.Spans.{Span, bracket, each, bracketed}
use Rattle.rhd_syntax.specs.Reading.{◌>>=◌, Parse, comes, after_bracket, many, bracketed_at}
use Rattle.rhd_syntax.proofs.Agrees.{Agrees, bind_some, some_pair}
use Rattle.rhd_syntax.proofs.ListLaws.{Goes, many_agrees}
use Rattle.rhd_syntax.proofs.ByteLaws.{bracket_sound, bracket_complete}

-- elements up to the bracket that ends them
abbrev inside : (A : Type 0) → Parse A → Parse (List A)
inside A one bytes = many (comes 41) one [] (length bytes) bytes

abbrev closed_at : (A : Type 0) → Parse A → Parse (List A)
closed_at A one bytes = inside A one bytes >>= λ x. Some (x.0, after_bracket x.1)

bracketed_sound : (A : Type 0) (one : Parse A) (written : A → Span) → Agrees A one written → Goes A (comes 41) written → (b : Bool) (xs : List A) (bytes rest : List ℕ) → comes 40 bytes ≡ b → cond b (closed_at A one (after_bracket bytes)) None ≡ Some (xs, rest) → bracketed written xs bytes rest
bracketed_sound A one written agrees goes true xs bytes rest h e =
    let a = bind_some (inside A one (after_bracket bytes)) (λ x. Some (x.0, after_bracket x.1)) (xs, rest) e in
    let p = some_pair a.0.0 xs (after_bracket a.0.1) rest a.2 in
    let w = (many_agrees A (comes 41) one written agrees goes).sound a.0.0 (after_bracket bytes) a.0.1 a.1 in (
      after_bracket bytes,
      bracket_sound 40 bytes (omega arith) h,
      (a.0.1, subst (λ (ys : List A). each written ys (after_bracket bytes) a.0.1) p.0 w.0, subst (λ (r : List ℕ). bracket 41 a.0.1 r) p.1 (bracket_sound 41 a.0.1 (omega arith) w.1)),
    )
bracketed_sound A one written agrees goes false xs bytes rest h e = absurd cc

pub bracketed_agrees : (A : Type 0) (one : Parse A) (written : A → Span) → Agrees A one written → Goes A (comes 41) written → Agrees (List A) (bracketed_at one) (bracketed written)
bracketed_agrees A one written agrees goes = record {
  sound = λ xs bytes rest e. bracketed_sound A one written agrees goes (comes 40 bytes) xs bytes rest refl e;
  complete = λ xs bytes rest w.
      let b = bracket_complete 40 bytes w.0 refl w.1 in
      let d = bracket_complete 41 w.2.0 rest refl w.2.2 in
      rw (b.0, b.1, (many_agrees A (comes 41) one written agrees goes).complete xs w.0 w.2.0 (w.2.1, d.0), d.1) refl;
}
