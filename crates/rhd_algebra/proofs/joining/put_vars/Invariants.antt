use Rattle.std.proofs.Common.{◌≡◌, List, [], ◌++◌}
use Rattle.rhd_value.specs.Tree.{Bytes, Tree}
use Rattle.rhd_module.specs.Manifests.{with_contents}
use Rattle.rhd_algebra.proofs.joining.put_vars.Given as goal

abbrev pub invariant-loop-name : goal.invariant-loop-name
invariant-loop-name l = (front : List (Bytes × Tree)) × (l.initial.name-iterator ≡ front ++ l.name-iterator) × (l.made ≡ with_contents front [] l.initial.made)
