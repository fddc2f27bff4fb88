use Rattle.std.proofs.Common.{◌≡◌, ◌++◌, ◌∷◌, [], length}
use Rattle.std.specs.List.{flat_map}
use Rattle.rhd_print.specs.PrintedTexts.{escaped}
use Rattle.rhd_print.proofs.quotes.push_quoted_by.Given as goal

abbrev pub invariant-loop-rest : goal.invariant-loop-rest
invariant-loop-rest l =
    l.out.items ++ flat_map (escaped l.quote) l.rest ≡ l.fn.out.items ++ ((l.quote ∷ []) ++ flat_map (escaped l.quote) l.text)

abbrev pub decreases-loop-rest : goal.decreases-loop-rest
decreases-loop-rest l = length l.rest
