use Rattle.rhd_syntax.proofs.FlagLaws.{flag_apart_at}
use Rattle.rhd_syntax.proofs.words.may_come.Goals as goal

pub returns-in-len1-up-word : goal.returns-in-len1-up-word
returns-in-len1-up-word c = λ apart. flag_apart_at c.args.word.now c.skip_blanks.result.now c.args.bytes.now c.in-len1-up.len_at_least c.in-len1-up-word.len_at_least apart c.skip_blanks.ensures
