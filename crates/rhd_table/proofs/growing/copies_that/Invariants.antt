use Rattle.std.proofs.Common.{◌≡◌, Bool, ◌++◌}
use Rattle.std.specs.Fn.{FnReturnsAt}
use Rattle.std.specs.List.{filter}
use Rattle.rhd_hash.specs.declared.key.Key.{Key}
use Rattle.rhd_table.specs.Tells.{Tells}
use Rattle.rhd_table.specs.Pairs.{Pairs}
use Rattle.rhd_table.proofs.growing.copies_that.Given as goal

abbrev pub invariant-loop-key : goal.invariant-loop-key
invariant-loop-key g l =
    (front : Pairs) × (l.initial.key-iterator ≡ front ++ l.key-iterator)
    × ((tells : Key → Bool) → Tells (FnReturnsAt g.F.Fn l.passes) tells → l.copies.items ≡ filter (λ p. tells p.0) front)
