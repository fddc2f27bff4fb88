-- Values in a list or a map weigh less than it.
use Rattle.std.proofs.Common.{ℕ, zero, suc, ◌+◌, ◌<◌, ◌≤◌, List, [], ◌∷◌, ◌++◌, length, get_or, arith}
use Rattle.rhd_value.specs.Tree.{Bytes, Tree, weight, weight_list, weight_entries}

pub weight_item : (ts : List Tree) (i : ℕ) (d : Tree) → i < length ts → weight (get_or ts i d) + 1 ≤ weight_list ts
weight_item [] i d h = absurd (omega arith)
weight_item (t ∷ ts) zero d h = omega arith
weight_item (t ∷ ts) (suc i) d h = omega (arith, weight_item ts i d (omega arith))

pub weight_entry : (done : List (Bytes × Tree)) (e : Bytes × Tree) (more : List (Bytes × Tree)) → weight e.1 + 1 ≤ weight_entries (done ++ e ∷ more)
weight_entry [] e more = omega arith
weight_entry (x ∷ done) e more = omega (arith, weight_entry done e more)
