use Rattle.std.proofs.Common.{◌≡◌, List, ◌++◌}
use Rattle.std.specs.declared.rc.Rc.{Rc}
use Rattle.rhd_value.specs.Tree.{Bytes}
use Rattle.rhd_module.specs.Tree.{ModuleTree, subs_of}
use Rattle.rhd_module.specs.Algebra.{over_all}
use Rattle.rhd_algebra.proofs.joining.+flatten.Given as goal

abbrev pub invariant-loop-child : goal.invariant-loop-child
invariant-loop-child l =
    (front : List (Bytes × Rc ModuleTree _)) × (l.initial.child-iterator ≡ front ++ l.child-iterator)
    × (l.made ≡ record l.initial.made { own = over_all (subs_of front) l.initial.made.own })
