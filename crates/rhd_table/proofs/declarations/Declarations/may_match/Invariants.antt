use Rattle.std.proofs.Common.{◌≡◌, drop}
use Rattle.std.specs.List.{list_any}
use Rattle.rhd_table.specs.NativeIndex.{dynamic_matches, matches_at}
use Rattle.rhd_table.proofs.declarations.Declarations.may_match.Given as goal

abbrev pub invariant-loop-place : goal.invariant-loop-place
invariant-loop-place l = list_any (matches_at l.self.pairs l.exact l.name l.kinds) (drop l.place-index l.place-items) ≡ list_any (λ p. dynamic_matches l.exact l.name l.kinds p.0) l.self.pairs
