use Rattle.std.proofs.Common.{◌≡◌, ◌++◌, is_some, is_none}
use Rattle.std.specs.List.{filter}
use Rattle.std.specs.Map.{lookup}
use Rattle.rhd_hash.specs.Keys.{key_eq}
use Rattle.rhd_table.specs.Pairs.{Pairs}
use Rattle.rhd_table.proofs.growing.split_copies.Given as goal

abbrev pub invariant-loop-key : goal.invariant-loop-key
invariant-loop-key l =
    (front : Pairs) × (l.initial.key-iterator ≡ front ++ l.key-iterator)
    × (l.there.items ≡ filter (λ p. is_some (lookup (key_eq p.0) l.others.pairs)) front)
    × (l.new.items ≡ filter (λ p. is_none (lookup (key_eq p.0) l.others.pairs)) front)
