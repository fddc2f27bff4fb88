use Rattle.std.proofs.Common.{◌≡◌, ◌++◌}
use Rattle.rhd_table.specs.Pairs.{Pairs, put_all}
use Rattle.rhd_module.specs.Manifests.{with_pairs}
use Rattle.rhd_module.proofs.declaring.register_declared.Given as goal

abbrev pub invariant-loop-key : goal.invariant-loop-key
invariant-loop-key l =
    (front : Pairs) × (l.initial.key-iterator ≡ front ++ l.key-iterator)
    × (l.target ≡ with_pairs (put_all front l.initial.target.own.eager) l.target.own.indexed l.initial.target)
