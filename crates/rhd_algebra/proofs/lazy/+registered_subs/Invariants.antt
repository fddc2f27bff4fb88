use Rattle.std.proofs.Common.{◌≡◌, List, ◌++◌}
use Rattle.std.specs.declared.rc.Rc.{Rc}
use Rattle.std.specs.List.{AllByRecursion}
use Rattle.rhd_value.specs.Tree.{Bytes}
use Rattle.rhd_module.specs.Lazy.{touched_below, HasApartTable, HasApartTree}
use Rattle.rhd_module.specs.Tree.{ModuleTree, subs_of}
use Rattle.rhd_module.proofs.LazyParts.{Follows}
use Rattle.rhd_algebra.proofs.lazy.+registered_subs.Given as goal

abbrev pub invariant-loop-name : goal.invariant-loop-name
invariant-loop-name l =
    (done : List (Bytes × Rc ModuleTree _)) × (l.initial.name-iterator.iter ≡ l.name-iterator.iter ++ done) × Follows l.after.entries done
    × AllByRecursion HasApartTable (touched_below (subs_of done)) × AllByRecursion HasApartTree (touched_below (subs_of done))
