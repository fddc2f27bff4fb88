use Rattle.std.proofs.Common.{◌≡◌, ◌++◌}
use Rattle.std.specs.List.{IsDistinct}
use Rattle.std.specs.Map.{keys_of}
use Rattle.rhd_hash.specs.Keys.{key_eq}
use Rattle.rhd_table.proofs.declarations.dup_declarations.Given as goal

abbrev pub invariant-loop-key : goal.invariant-loop-key
invariant-loop-key l =
    (l.table.pairs ≡ l.copy.pairs ++ l.key-iterator) × IsDistinct key_eq (keys_of l.table.pairs) × (l.copy.seeds ≡ l.table.seeds)
