use Rattle.std.proofs.Common.{◌≡◌, List, ◌++◌}
use Rattle.rhd_value.specs.Tree.{Bytes, Tree}
use Rattle.rhd_module.specs.Algebra.{new_vars}
use Rattle.rhd_algebra.proofs.joining.new_vars.Given as goal

abbrev pub invariant-loop-name : goal.invariant-loop-name
invariant-loop-name l = (front : List (Bytes × Tree)) × (l.initial.name-iterator ≡ front ++ l.name-iterator) × (l.vars.items ≡ new_vars l.own.own.vars front)
