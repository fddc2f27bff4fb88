use Rattle.std.proofs.Common.{take}
use Rattle.rhd_table.specs.NativeIndex.{IsIndex}
use Rattle.rhd_table.proofs.growing.note_places.Given as goal

abbrev pub invariant-loop-place : goal.invariant-loop-place
invariant-loop-place l = IsIndex l.natives l.table.seeds (take l.place l.table.pairs)
