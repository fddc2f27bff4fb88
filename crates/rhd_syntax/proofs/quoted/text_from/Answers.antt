use Rattle.std.proofs.Common.{◌≡◌, ℕ, true, false, List, Some, ap, sym, subst, refl, ◌∙◌}
use Rattle.std.specs.Str.{IsUtf8}
use Rattle.std.proofs.lemmas.Str.{IsUtf8-had}
use Rattle.rhd_syntax.proofs.NumberLaws.{is_text, is_no_text}
use Rattle.rhd_syntax.proofs.quoted.text_from.Goals as goal

pub returns-in-Ok : goal.returns-in-Ok
returns-in-Ok c =
    let e : c.in-Ok.text.bytes.items ≡ c.args.bytes.items = ap (λ v. v.items) c.in-Ok.ensures.ok in
    rw (is_text c.args.bytes.items (subst IsUtf8 e (IsUtf8-had c.in-Ok.text.bytes.items c.in-Ok.text.ok))) (ap (λ (w : List ℕ). Some w) (sym (c.in_ok-from_string-in-Ok.ensures ∙ e)))

never : false ≡ true → ⊥
never e = absurd cc

pub returns : goal.returns
returns c = rw (is_no_text c.args.bytes.items (λ u. never (c.in-Err.ensures.succeeds u))) refl
