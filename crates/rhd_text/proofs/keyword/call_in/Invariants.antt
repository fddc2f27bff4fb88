use Rattle.std.proofs.Common.{◌≡◌, drop}
use Rattle.rhd_text.specs.Rows.{step}
use Rattle.rhd_text.specs.ReadRows.{keyword_in}
use Rattle.rhd_text.proofs.keyword.call_in.Given as goal

abbrev pub invariant-loop-k : goal.invariant-loop-k
invariant-loop-k l = keyword_in step (drop l.k-index l.calls) l.word ≡ keyword_in step l.calls l.word
