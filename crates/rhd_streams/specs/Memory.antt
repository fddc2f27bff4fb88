-- What the sources and sinks in memory hold, and which of their calls fail.
use Rattle.std.specs.Prelude.{ℕ, ◌+◌, ◌-◌, ◌^◌, min, nat_eq, Bool, true, false, List, Result, Ok, Err, drop}
use Rattle.std.specs.List.{list_any}
use Rattle.rhd_streams.specs.declared.source.MemSource.{MemSource}
use Rattle.rhd_streams.specs.declared.source.PlainSource.{PlainSource}
use Rattle.rhd_streams.specs.declared.sink.MemSink.{MemSink}
use Rattle.rhd_streams.specs.declared.sink.SinkFault.{SinkFault}
use Rattle.rhd_streams.specs.declared.sink.SinkFault.TheVariants as faults

abbrev pub bytes_left : MemSource → List ℕ
bytes_left s = drop s.at s.bytes.items

abbrev pub plain_left : PlainSource → List ℕ
plain_left s = drop s.at s.bytes.items

abbrev pub bytes_written : MemSink → List ℕ
bytes_written s = s.bytes.items

-- the number of the next call, after so many; the count stands still at the greatest `u64`
abbrev pub next_call : ℕ → ℕ
next_call calls = min (calls + 1) (2 ^ 64 - 1)

-- the next call is to fail: its number is listed
abbrev pub fails_next : ℕ → List ℕ → Bool
fails_next calls fails = list_any (λ n. nat_eq n (next_call calls)) fails

-- a write failed, and not for want of memory
abbrev pub is_failed : Result ℕ SinkFault → Bool
is_failed (Ok count) = false
is_failed (Err faults.Failed) = true
is_failed (Err faults.OutOfMemory) = false
