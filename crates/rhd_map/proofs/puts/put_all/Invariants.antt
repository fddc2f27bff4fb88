use Rattle.std.proofs.Common.{◌≡◌, reverse}
use Rattle.rhd_map.specs.Puts.{IsPut, put_entries}
use Rattle.rhd_map.proofs.puts.put_all.Given as goal

abbrev pub invariant-loop-name : goal.invariant-loop-name
invariant-loop-name g l = record { put : l.map.entries ≡ put_entries l.yielded l.initial.map.entries; replaced : IsPut (reverse l.replaced.items) l.initial.map.entries l.map.entries }
