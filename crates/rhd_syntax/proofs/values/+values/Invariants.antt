use Rattle.std.proofs.Common.{◌≡◌, ◌+◌, ◌*◌, length, []}
use Rattle.rhd_syntax.specs.Reading.{many, comes, tree_at, entries_at}
use Rattle.rhd_syntax.proofs.values.+values.Given as goal

abbrev pub decreases-tree_at : goal.decreases-tree_at
decreases-tree_at l = 6 * l.depth

abbrev pub decreases-kind_at : goal.decreases-kind_at
decreases-kind_at l = 6 * l.depth + 5

abbrev pub decreases-headed_at : goal.decreases-headed_at
decreases-headed_at l = 6 * l.depth + 4

abbrev pub decreases-pointer_at : goal.decreases-pointer_at
decreases-pointer_at l = 6 * l.depth + 3

abbrev pub decreases-items_at : goal.decreases-items_at
decreases-items_at l = 6 * l.depth + 2

abbrev pub decreases-items_to : goal.decreases-items_to
decreases-items_to l = 6 * l.depth + 1

abbrev pub decreases-members_at : goal.decreases-members_at
decreases-members_at l = 6 * l.depth + 2

abbrev pub decreases-entries_to : goal.decreases-entries_to
decreases-entries_to l = 6 * l.depth + 1

abbrev pub invariant-items_to-loop-most : goal.invariant-items_to-loop-most
invariant-items_to-loop-most l = many (comes l.close) (tree_at l.depth) l.items l.most l.rest ≡ many (comes l.close) (tree_at l.depth) [] (length l.bytes) l.bytes

abbrev pub decreases-items_to-loop-most : goal.decreases-items_to-loop-most
decreases-items_to-loop-most l = l.most

abbrev pub invariant-entries_to-loop-most : goal.invariant-entries_to-loop-most
invariant-entries_to-loop-most l = entries_at (tree_at l.depth) l.entries l.most l.rest ≡ entries_at (tree_at l.depth) [] (length l.bytes) l.bytes

abbrev pub decreases-entries_to-loop-most : goal.decreases-entries_to-loop-most
decreases-entries_to-loop-most l = l.most
