use Rattle.std.proofs.Common.{◌≡◌, ◌+◌, ◌*◌, List, ◌++◌, drop, cond}
use Rattle.rhd_value.specs.Tree.{Bytes, Tree, weight, weight_kind, weight_list, weight_entries, items_of, members_of}
use Rattle.rhd_value.specs.Views.{kind_view}
use Rattle.rhd_print.specs.PrintedValues.{spaced_items, spelled_members, spaced_members}
use Rattle.rhd_print.proofs.values.+push_value.Given as goal

abbrev pub decreases-push_value : goal.decreases-push_value
decreases-push_value l = 3 * weight l.value.now

abbrev pub decreases-push_kind : goal.decreases-push_kind
decreases-push_kind l = 3 * weight_kind (kind_view l.value.now) + 2

abbrev pub decreases-push_pointer : goal.decreases-push_pointer
decreases-push_pointer l = 3 * weight_list l.ptr.now.curry + 1

abbrev pub decreases-push_values : goal.decreases-push_values
decreases-push_values l = 3 * weight_list l.values.now + 1

abbrev pub decreases-push_spaced : goal.decreases-push_spaced
decreases-push_spaced l = 3 * weight_list l.values.now

abbrev pub decreases-push_entries : goal.decreases-push_entries
decreases-push_entries l = 3 * weight_entries l.entries.now + 1

abbrev pub decreases-push_entry : goal.decreases-push_entry
decreases-push_entry l = 3 * weight l.value.now + 1

abbrev pub invariant-push_spaced-loop-value : goal.invariant-push_spaced-loop-value
invariant-push_spaced-loop-value l =
    l.out.items ++ spaced_items (items_of (drop l.value-index l.values)) ≡ l.fn.out.items ++ spaced_items (items_of l.values)

abbrev pub invariant-push_entries-loop-name : goal.invariant-push_entries-loop-name
invariant-push_entries-loop-name l =
    (done : List (Bytes × Tree)) × (l.entries ≡ done ++ l.name-iterator) × (l.out.items ++ cond l.later (spaced_members (members_of l.name-iterator)) (spelled_members (members_of l.name-iterator)) ≡ l.fn.out.items ++ spelled_members (members_of l.entries))
