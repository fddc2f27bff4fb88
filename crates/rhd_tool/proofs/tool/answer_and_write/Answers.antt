use Rattle.std.proofs.lemmas.Result.{IfOk-at_ok}
use Rattle.rhd_tool.proofs.Sessions.{front_answered}
use Rattle.rhd_tool.proofs.tool.answer_and_write.Goals as goal

pub returns-in-Ok-clause-some : goal.returns-in-Ok-clause-some
returns-in-Ok-clause-some g c = front_answered _ c.args.text c.args.text.commands c.in-Ok.replies c.end_written.result.replies c.end_written.ensures.replies (IfOk-at_ok _ c.in-Ok.is c.answer-answered.ensures.count) (IfOk-at_ok _ c.in-Ok.is c.answer-answered.ensures.all)
