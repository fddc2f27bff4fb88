use Rattle.std.proofs.Common.{◌≡◌, ◌+◌, ◌≤◌, length}
use Rattle.std.specs.Str.Lines.{lines}
use Rattle.rhd_loader.specs.Said.{nothing_said}
use Rattle.rhd_loader.specs.Reading.{said_from}
use Rattle.rhd_loader.proofs.reading.read_lines.Given as goal

abbrev pub invariant-loop-rest : goal.invariant-loop-rest
invariant-loop-rest l = record {
  counted : l.number + length l.rest ≤ length l.bytes;
  so_far : said_from (l.number + 1) l.said (lines l.rest) ≡ said_from 1 nothing_said (lines l.bytes);
}

abbrev pub decreases-loop-rest : goal.decreases-loop-rest
decreases-loop-rest l = length l.rest
