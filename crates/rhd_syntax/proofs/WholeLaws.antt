-- One value by itself: what is read is what is written.
use Rattle.std.proofs.Common.{◌≡◌, ℕ, Bool, true, false, cond, not, List, Option, Some, None, refl, sym, subst, ◌∙◌}
use Rattle.std.specs.Str.{is_utf8}
use Rattle.rhd_value.specs.Tree.{Tree}
use Rattle.rhd_syntax.specs.Spans.{value, IsValue}
use Rattle.rhd_syntax.specs.Reading.{◌>>=◌, is_end, value_at, whole_value_at}
use Rattle.rhd_syntax.proofs.Agrees.{bind_some, same_some, cond_some}
use Rattle.rhd_syntax.proofs.WordLaws.{end_sound, end_complete}
use Rattle.rhd_syntax.proofs.ValueLaws.{value_agrees}

-- what is read of bytes in UTF-8
abbrev ended : List ℕ → Option Tree
ended bytes = value_at bytes >>= λ t. cond (is_end t.1) (Some t.0) None

in_utf8 : (b : Bool) (t : Tree) (bytes : List ℕ) → is_utf8 bytes ≡ b → cond (not b) None (ended bytes) ≡ Some t → (is_utf8 bytes ≡ true) × (ended bytes ≡ Some t)
in_utf8 true t bytes h e = (h, e)
in_utf8 false t bytes h e = absurd cc

pub whole_sound : (bytes : List ℕ) (t : Tree) → whole_value_at bytes ≡ Some t → IsValue t bytes
unfolding whole_value_at
whole_sound bytes t e =
    let a = in_utf8 (is_utf8 bytes) t bytes refl e in
    let b = bind_some (value_at bytes) (λ x. cond (is_end x.1) (Some x.0) None) t a.1 in
    let c = cond_some (is_end b.0.1) b.0.0 t b.2 in
    record { utf8 = a.0; written = (b.0.1, subst (λ (u : Tree). value u bytes b.0.1) c.1 (value_agrees.sound b.0.0 bytes b.0.1 b.1), end_sound b.0.1 c.0) }

pub whole_complete : (bytes : List ℕ) (t : Tree) → IsValue t bytes → whole_value_at bytes ≡ Some t
unfolding whole_value_at
whole_complete bytes t w = rw (w.utf8, value_agrees.complete t bytes w.written.0 w.written.1, end_complete w.written.0 w.written.2) refl

pub whole_none : (bytes : List ℕ) → whole_value_at bytes ≡ None → (t : Tree) → IsValue t bytes → ⊥
whole_none bytes e t w = let f : Some t ≡ None = sym (whole_complete bytes t w) ∙ e in absurd cc

pub one_value : (bytes : List ℕ) (t u : Tree) → IsValue t bytes → IsValue u bytes → t ≡ u
one_value bytes t u v w = same_some t u (sym (whole_complete bytes t v) ∙ whole_complete bytes u w)
