use Rattle.std.proofs.Common.{◌≡◌, Bool, List, ◌++◌}
use Rattle.std.specs.declared.rc.Rc.{Rc}
use Rattle.std.specs.Fn.{FnReturnsAt}
use Rattle.std.specs.List.{AllByRecursion}
use Rattle.rhd_value.specs.Tree.{Bytes}
use Rattle.rhd_decl.specs.declared.declaration.Declaration.{Declaration}
use Rattle.rhd_module.specs.Tree.{ModuleTree, subs_of, depth}
use Rattle.rhd_module.specs.Algebra.{merge_subs, rebuilt, HasOwnTable}
use Rattle.rhd_table.specs.Tells.{Tells}
use Rattle.rhd_algebra.proofs.joining.+merge.Given as goal

abbrev pub invariant-loop-name : goal.invariant-loop-name
invariant-loop-name g l =
    (front : List (Bytes × Rc ModuleTree _)) × (l.initial.name-iterator ≡ front ++ l.name-iterator)
    × ((tells : Declaration → Bool) → Tells (FnReturnsAt g.F.Fn l.passes) tells → l.made ≡ record { own = record l.initial.made.own { indexed = l.made.own.indexed }; subs = merge_subs tells l.initial.made.own.seeds (subs_of front) l.initial.made.subs })
    × ((tells : Declaration → Bool) → Tells (FnReturnsAt g.F.Fn l.passes) tells → AllByRecursion HasOwnTable (rebuilt tells l.initial.made.own.seeds (subs_of front)))

abbrev pub decreases-merge : goal.decreases-merge
decreases-merge g l = depth l.other.now.subs
