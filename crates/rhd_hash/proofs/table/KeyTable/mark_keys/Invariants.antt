use Rattle.std.proofs.Common.{◌≡◌, ℕ, ◌||◌, map}
use Rattle.std.specs.Map.{keys_of}
use Rattle.rhd_hash.specs.Filter.{is_marked}
use Rattle.rhd_hash.specs.Parts.{mixed}
use Rattle.rhd_hash.proofs.Covered.{has_slot_of}
use Rattle.rhd_hash.proofs.table.KeyTable.mark_keys.Given as goal

abbrev pub invariant-loop-hash : goal.invariant-loop-hash
invariant-loop-hash g l = (v : ℕ) → (is_marked g.row.SIZE l.filter v || has_slot_of g.row.SIZE v l.hash-iterator)
    ≡ (is_marked g.row.SIZE l.initial.filter v || has_slot_of g.row.SIZE v (map (mixed l.self.seeds) (keys_of l.self.pairs)))
