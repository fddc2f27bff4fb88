use Rattle.std.proofs.Common.{◌≡◌, ◌||◌, ℕ, take}
use Rattle.rhd_hash.specs.Filter.{is_marked}
use Rattle.rhd_manifest.specs.Listing.{listed_in}
use Rattle.rhd_table.specs.Marks.{lists_dynamic}
use Rattle.rhd_table.proofs.marks.mark_parts.Given as goal

abbrev pub invariant-loop-part : goal.invariant-loop-part
invariant-loop-part l = (v : ℕ) → is_marked 8 l.filter v ≡ (is_marked 8 l.initial.filter v || lists_dynamic l.seeds v (listed_in (take l.part-index l.parts)))
