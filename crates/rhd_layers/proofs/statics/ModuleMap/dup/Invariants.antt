use Rattle.std.proofs.Common.{◌≡◌, ◌++◌}
use Rattle.rhd_layers.proofs.statics.ModuleMap.dup.Given as goal

abbrev pub invariant-loop-name : goal.invariant-loop-name
invariant-loop-name l = l.copy.entries ++ l.name-iterator ≡ l.self
