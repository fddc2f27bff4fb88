use Rattle.std.proofs.Common.{ℕ, List, Some, ap, sym, refl, ◌∙◌}
use Rattle.rhd_syntax.proofs.NumberLaws.{is_text, is_no_text}
use Rattle.rhd_syntax.proofs.quoted.str_of.Goals as goal

pub returns-in-Ok : goal.returns-in-Ok
returns-in-Ok c = rw (is_text c.args.word.now c.in-Ok.ensures.cases.1) (ap (λ (w : List ℕ). Some w) (sym c.in-Ok.ensures.cases.0))

pub returns-in-Err : goal.returns-in-Err
returns-in-Err c = rw (is_no_text c.args.word.now c.in-Err.ensures.cases.0) refl
