use Rattle.std.proofs.Common.{◌≡◌}
use Rattle.rhd_layers.specs.Lists.{latest_of}
use Rattle.rhd_layers.proofs.lists.ImportList.find.Given as goal

abbrev pub invariant-loop-known : goal.invariant-loop-known
invariant-loop-known l = latest_of l.name l.known-iterator.iter.rest.now ≡ latest_of l.name l.self
