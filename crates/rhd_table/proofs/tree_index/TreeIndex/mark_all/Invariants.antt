use Rattle.std.proofs.Common.{◌≡◌, ◌++◌, [], false}
use Rattle.std.specs.List.{list_any}
use Rattle.rhd_table.specs.Marks.{may_be_dynamic}
use Rattle.rhd_table.specs.Pairs.{Pairs}
use Rattle.rhd_table.specs.Indexed.{Fills}
use Rattle.rhd_table.proofs.tree_index.TreeIndex.mark_all.Given as goal

abbrev pub invariant-loop-key : goal.invariant-loop-key
invariant-loop-key l =
    (front : Pairs) × (l.initial.key-iterator ≡ front ++ l.key-iterator)
    × Fills l.initial.self l.self [] (λ v. list_any (λ p. may_be_dynamic l.initial.self.seeds v p.0) front) false
