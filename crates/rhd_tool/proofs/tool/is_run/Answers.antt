use Rattle.std.specs.Prelude.{string_bytes, codes}
use Rattle.rhd_tool.proofs.WordLaws.{lone, tells_word}
use Rattle.rhd_tool.proofs.tool.is_run.Goals as goal

pub returns-in-len1 : goal.returns-in-len1
returns-in-len1 c = tells_word (λ w. string_bytes w) c.args.words.now c.word-item.result c.as_str.result.now (codes "run") c.eq.result c.eq.ensures c.as_str.ensures.value (lone c.args.words.now c.word-item.result c.in-len1.len_at_least c.in-len1.len_below c.word-item.is)
