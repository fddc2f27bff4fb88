use Rattle.std.proofs.Common.{◌≡◌, ℕ, ◌<◌, ◌≤◌, get_or, bit_or, length}
use Rattle.rhd_hash.proofs.filter.BloomFilterU64AddAssignRefBloomFilterU64.add_assign.Given as goal

abbrev pub invariant-loop-i : goal.invariant-loop-i
invariant-loop-i g l = record {
  long : length l.bytes ≡ g.row.SIZE;
  done : (k : ℕ) → k < l.i → get_or l.bytes k 0 ≡ bit_or (get_or l.initial.bytes k 0) (get_or l.others k 0);
  left : (k : ℕ) → l.i ≤ k → get_or l.bytes k 0 ≡ get_or l.initial.bytes k 0;
}
