use Rattle.std.proofs.Common.{◌≡◌, ◌+◌, ◌-◌, ◌≤◌, length, vec_len}
use Rattle.std.specs.Io.KnownBytes.{Consumes}
use Rattle.rhd_streams.specs.Streams.{most_asked}
use Rattle.rhd_streams.proofs.reading.read_whole.Given as goal

abbrev pub invariant-loop-buf : goal.invariant-loop-buf
invariant-loop-buf g l = record { came : Consumes (g.S.Source.left l.fn.source) (g.S.Source.left l.source) l.bytes.items; later : g.S.Source.faults l.fn.source ≤ g.S.Source.faults l.source; room : length l.buf ≡ 16384; once : length l.bytes.items ≤ l.most + most_asked }

abbrev pub decreases-loop-buf : goal.decreases-loop-buf
decreases-loop-buf g l = l.most + 1 - vec_len l.bytes
