use Rattle.std.proofs.Common.{◌≡◌, List, ◌++◌}
use Rattle.std.specs.declared.rc.Rc.{Rc}
use Rattle.rhd_value.specs.Tree.{Bytes}
use Rattle.rhd_module.specs.Tree.{ModuleTree, subs_of}
use Rattle.rhd_algebra.proofs.joining.sub_modules_of.Given as goal

abbrev pub invariant-loop-name : goal.invariant-loop-name
invariant-loop-name l = (front : List (Bytes × Rc ModuleTree _)) × (l.initial.name-iterator ≡ front ++ l.name-iterator) × (subs_of l.subs.items ≡ subs_of front)
