use Rattle.std.proofs.Common.{◌≡◌, ◌++◌, take}
use Rattle.rhd_layers.proofs.lists.push_all.Given as goal

abbrev pub invariant-loop-name : goal.invariant-loop-name
invariant-loop-name l = l.imports ≡ l.initial.imports ++ take l.name-index l.added
