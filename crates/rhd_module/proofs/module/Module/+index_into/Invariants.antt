use Rattle.std.proofs.Common.{◌≡◌, List, ◌++◌}
use Rattle.std.specs.declared.rc.Rc.{Rc}
use Rattle.rhd_value.specs.Tree.{Bytes}
use Rattle.rhd_module.specs.Tree.{ModuleTree, subs_of}
use Rattle.rhd_module.specs.Walk.{below}
use Rattle.rhd_module.specs.Below.{some_below, declares_global, declares_dynamic}
use Rattle.rhd_table.specs.Indexed.{Fills}
use Rattle.rhd_module.proofs.module.Module.+index_into.Given as goal

abbrev pub invariant-loop-name : goal.invariant-loop-name
invariant-loop-name l =
    (done : List (Bytes × Rc ModuleTree _)) × (l.initial.name-iterator ≡ done ++ l.name-iterator)
    × Fills l.initial.index l.index (below l.path (subs_of done)) (λ hash. some_below (declares_dynamic l.initial.index.seeds hash) (subs_of done)) (some_below declares_global (subs_of done))
