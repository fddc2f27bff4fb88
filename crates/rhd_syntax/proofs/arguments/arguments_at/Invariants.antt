use Rattle.std.proofs.Common.{◌≡◌, length, List, []}
use Rattle.rhd_syntax.specs.declared.arguments.Argument.{Argument}
use Rattle.rhd_syntax.specs.Arguments.{together}
use Rattle.rhd_syntax.specs.Reading.{many, is_end, argument_at}
use Rattle.rhd_syntax.proofs.arguments.arguments_at.Given as goal

abbrev pub invariant-loop-most : goal.invariant-loop-most
invariant-loop-most l = (found : List Argument) × (l.arguments ≡ together found) × (many is_end (argument_at l.given) found l.most l.rest ≡ many is_end (argument_at l.given) [] (length l.bytes) l.bytes)

abbrev pub decreases-loop-most : goal.decreases-loop-most
decreases-loop-most l = l.most
