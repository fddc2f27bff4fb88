use Rattle.std.proofs.Common.{◌≡◌, length, []}
use Rattle.rhd_syntax.specs.Reading.{many, comes, wording_at}
use Rattle.rhd_syntax.proofs.operands.texts_to_bracket.Given as goal

abbrev pub invariant-loop-most : goal.invariant-loop-most
invariant-loop-most l = many (comes 41) wording_at l.texts l.most l.rest ≡ many (comes 41) wording_at [] (length l.bytes) l.bytes

abbrev pub decreases-loop-most : goal.decreases-loop-most
decreases-loop-most l = l.most
