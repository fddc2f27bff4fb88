use Rattle.std.proofs.Common.{◌≡◌, false, length}
use Rattle.rhd_syntax.specs.Reading.{text_at}
use Rattle.rhd_syntax.specs.Runs.{with_text}
use Rattle.rhd_syntax.proofs.quoted.text_at.Given as goal

abbrev pub invariant-loop-rest : goal.invariant-loop-rest
invariant-loop-rest l = with_text l.out.items (text_at l.quote l.escaped l.rest) ≡ text_at l.quote false l.bytes

abbrev pub decreases-loop-rest : goal.decreases-loop-rest
decreases-loop-rest l = length l.rest
