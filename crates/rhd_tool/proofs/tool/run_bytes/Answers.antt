use Rattle.std.proofs.Common.{inl, inr, ap, ◌∙◌, arith}
use Rattle.rhd_tool.specs.Handed.{handed_of}
use Rattle.rhd_tool.proofs.Sessions.{limits_allowed}
use Rattle.rhd_tool.proofs.tool.run_bytes.Goals as goal

pub returns-in-Err-BadLine-clause-first : goal.returns-in-Err-BadLine-clause-first
returns-in-Err-BadLine-clause-first g c = λ n first. inl (ap (λ end. end.status) c.end.ensures, ap (λ end. end.line) c.end.ensures ∙ (rw c.in-Err-BadLine.field-0-is at (c.in-Err-BadLine.ensures.bad n first)))

pub returns-clause-first : goal.returns-clause-first
returns-clause-first g c = λ n first. absurd (c.in-Ok.ensures.bad n first)

pub answer_and_write-requires-clause-level : goal.answer_and_write-requires-clause-level
answer_and_write-requires-clause-level g c = limits_allowed c.in-Ok.text.limits c.in-Ok.ensures.limits

pub answer_and_write-requires-clause-count : goal.answer_and_write-requires-clause-count
answer_and_write-requires-clause-count g c = omega (arith, c.in-Ok.ensures.count, c.requires)

pub returns-in-Err-BadLine-clause-text : goal.returns-in-Err-BadLine-clause-text
returns-in-Err-BadLine-clause-text g c = λ text says two. rw c.in-Err-BadLine.field-0-is at (c.in-Err-BadLine.ensures.text text says)

pub returns-clause-ran : goal.returns-clause-ran
unfolding handed_of
returns-clause-ran g c = λ status. record { text = c.in-Ok.text; says = c.in-Ok.ensures.reads; answers = c.answer_and_write.ensures.all status }

pub returns-clause-made : goal.returns-clause-made
unfolding handed_of
returns-clause-made g c = λ status. inr (record { text = c.in-Ok.text; says = c.in-Ok.ensures.reads; answers = c.answer_and_write.ensures.some; asked = c.answer_and_write.ensures.asked })
