use Rattle.std.proofs.Common.{◌≡◌, ◌∙◌, sym}
use Rattle.std.proofs.lemmas.Str.{IsUtf8-from_ascii, is_utf8-from_IsUtf8}
use Rattle.rhd_syntax.proofs.NumberLaws.{tells_text}
use Rattle.rhd_syntax.proofs.utf8.is_text.Goals as goal

pub returns : goal.returns
returns c = c.is_ok.ensures.value ∙ tells_text (λ s. s.now ≡ c.args.bytes.now) _ c.from_utf8.result c.args.bytes.now c.from_utf8.ensures.cases

pub returns-then-is_ascii : goal.returns-then-is_ascii
returns-then-is_ascii c = sym (is_utf8-from_IsUtf8 c.args.bytes.now (IsUtf8-from_ascii c.args.bytes.now (c.is_ascii.ensures c.if-is_ascii.true)))
