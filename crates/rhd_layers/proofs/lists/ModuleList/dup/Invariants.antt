use Rattle.std.proofs.Common.{◌≡◌, take}
use Rattle.rhd_layers.proofs.lists.ModuleList.dup.Given as goal

abbrev pub invariant-loop-module : goal.invariant-loop-module
invariant-loop-module l = l.modules ≡ take l.module-index l.module-items
