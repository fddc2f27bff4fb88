use Rattle.std.proofs.Common.{◌∙◌}
use Rattle.rhd_syntax.proofs.NumberLaws.{parsed_i64, signed_digits_are_text}
use Rattle.rhd_syntax.proofs.numbers.parse_i64.Goals as goal

pub returns-in-Ok : goal.returns-in-Ok
returns-in-Ok c = c.ok.ensures.value ∙ parsed_i64 c.args.word.now c.parse.result c.requires (rw c.in-Ok.ensures.cases.0 at c.parse.ensures.value.0)

pub returns-in-Err : goal.returns-in-Err
returns-in-Err c = absurd (c.in-Err.ensures.cases.0 (signed_digits_are_text c.args.word.now c.requires))
