use Rattle.std.proofs.Common.{◌≡◌, ◌++◌, List, map, false, Bor}
use Rattle.std.specs.List.{list_any}
use Rattle.rhd_func.specs.Access.{is_global_namespace}
use Rattle.rhd_manifest.specs.Entry.{Entry, entry_pair}
use Rattle.rhd_table.specs.Pairs.{without}
use Rattle.rhd_table.specs.Paths.{pairs_at}
use Rattle.rhd_table.specs.Indexed.{Fills}
use Rattle.rhd_table.proofs.tree_index.TreeIndex.put_each_listed.Given as goal

abbrev pub invariant-loop-entry : goal.invariant-loop-entry
invariant-loop-entry l =
    (done : List (Bor Entry)) × (l.initial.entry-iterator.iter.rest.now ≡ l.entry-iterator.iter.rest.now ++ done)
    × Fills l.initial.self l.self (pairs_at l.path (without l.declarations.pairs (map (λ e. entry_pair l.declarations.seeds e.now) done))) (λ _. false)
    (list_any (λ p. is_global_namespace p.1.metadata.namespace) (without l.declarations.pairs (map (λ e. entry_pair l.declarations.seeds e.now) done)))
