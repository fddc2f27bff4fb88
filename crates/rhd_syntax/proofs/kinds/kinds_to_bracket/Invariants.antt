use Rattle.std.proofs.Common.{◌≡◌, length, []}
use Rattle.rhd_syntax.specs.Reading.{many, comes, param_kind_at}
use Rattle.rhd_syntax.proofs.kinds.kinds_to_bracket.Given as goal

abbrev pub invariant-loop-most : goal.invariant-loop-most
invariant-loop-most l = many (comes 41) param_kind_at l.kinds l.most l.rest ≡ many (comes 41) param_kind_at [] (length l.bytes) l.bytes

abbrev pub decreases-loop-most : goal.decreases-loop-most
decreases-loop-most l = l.most
