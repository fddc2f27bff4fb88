use Rattle.std.proofs.Common.{◌≡◌, List, ◌++◌}
use Rattle.rhd_value.specs.Tree.{Bytes, Tree}
use Rattle.rhd_algebra.proofs.joining.vars_of.Given as goal

abbrev pub invariant-loop-name : goal.invariant-loop-name
invariant-loop-name l = (front : List (Bytes × Tree)) × (l.initial.name-iterator ≡ front ++ l.name-iterator) × (l.vars.items ≡ front)
