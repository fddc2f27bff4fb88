use Rattle.std.proofs.Common.{◌-◌, ◌≤◌, take}
use Rattle.rhd_table.specs.NativeIndex.{IsIndex}
use Rattle.rhd_table.proofs.growing.forget_places.Given as goal

abbrev pub invariant-loop-place : goal.invariant-loop-place
invariant-loop-place l = record { above : l.from ≤ l.place; below : l.place ≤ l.to; index : IsIndex l.natives l.table.seeds (take l.place l.table.pairs) }

abbrev pub decreases-loop-place : goal.decreases-loop-place
decreases-loop-place l = l.place - l.from
