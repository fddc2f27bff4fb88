use Rattle.std.proofs.Common.{◌≡◌, ◌||◌, ℕ, take}
use Rattle.rhd_hash.specs.Filter.{is_marked}
use Rattle.rhd_table.specs.Marks.{lists_dynamic}
use Rattle.rhd_table.proofs.marks.mark_entries.Given as goal

abbrev pub invariant-loop-entry : goal.invariant-loop-entry
invariant-loop-entry l = (v : ℕ) → is_marked 8 l.filter v ≡ (is_marked 8 l.initial.filter v || lists_dynamic l.seeds v (take l.entry-index l.entries))
