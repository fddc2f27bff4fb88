use Rattle.std.proofs.Common.{◌≡◌, ℕ, ◌||◌, take}
use Rattle.std.specs.List.{list_any}
use Rattle.rhd_hash.specs.Filter.{is_marked}
use Rattle.rhd_table.specs.Marks.{may_be_dynamic}
use Rattle.rhd_table.proofs.marks.mark_pairs.Given as goal

abbrev pub invariant-loop-key : goal.invariant-loop-key
invariant-loop-key l = (v : ℕ) → is_marked 8 l.filter v ≡ (is_marked 8 l.initial.filter v || list_any (λ p. may_be_dynamic l.seeds v p.0) (take l.key-index l.pairs))
