use Rattle.std.proofs.Common.{◌≡◌, ℕ, ◌<◌, get_or}
use Rattle.std.specs.Int.{bit_at}
use Rattle.rhd_hash.proofs.filter.BloomFilterU64.is_empty.Given as goal

abbrev pub invariant-loop-byte : goal.invariant-loop-byte
invariant-loop-byte g l = (k : ℕ) → k < l.byte-index → (i : ℕ) → i < 8 → bit_at (get_or l.byte-items k 0) i ≡ 0
