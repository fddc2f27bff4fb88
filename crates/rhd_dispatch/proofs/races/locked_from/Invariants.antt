use Rattle.std.proofs.Common.{◌≡◌, ◌+◌, drop}
use Rattle.rhd_dispatch.specs.Races.{locked_from}
use Rattle.rhd_dispatch.proofs.races.locked_from.Given as goal

abbrev pub invariant-loop-value : goal.invariant-loop-value
invariant-loop-value l = (l.place ≡ l.start + l.value-index) × (locked_from l.place (drop l.value-index l.values) ≡ locked_from l.start l.values)
