use Rattle.std.proofs.Common.{◌-◌, ◌≤◌, length, take}
use Rattle.std.specs.Io.KnownBytes.{Appends}
use Rattle.rhd_print.specs.PrintedReplies.{all_printed}
use Rattle.rhd_tool.proofs.writing.write_replies.Given as goal

abbrev pub invariant-loop-done : goal.invariant-loop-done
invariant-loop-done g l = record { wrote : Appends (g.K.Sink.written l.fn.sink) (g.K.Sink.written l.sink) (all_printed (take l.done l.replies)); later : g.K.Sink.faults l.fn.sink ≤ g.K.Sink.faults l.sink; within : l.done ≤ length l.replies }

abbrev pub decreases-loop-done : goal.decreases-loop-done
decreases-loop-done g l = length l.replies - l.done
