use Rattle.std.proofs.Common.{◌≡◌, ◌++◌, false}
use Rattle.std.specs.List.{list_any}
use Rattle.rhd_func.specs.Access.{is_global_namespace}
use Rattle.rhd_table.specs.Pairs.{Pairs}
use Rattle.rhd_table.specs.Paths.{pairs_at}
use Rattle.rhd_table.specs.Indexed.{Fills}
use Rattle.rhd_table.proofs.tree_index.TreeIndex.put_each.Given as goal

abbrev pub invariant-loop-key : goal.invariant-loop-key
invariant-loop-key l =
    (done : Pairs) × (l.initial.key-iterator.iter ≡ l.key-iterator.iter ++ done) × Fills l.initial.self l.self (pairs_at l.path done) (λ _. false) (list_any (λ p. is_global_namespace p.1.metadata.namespace) done)
