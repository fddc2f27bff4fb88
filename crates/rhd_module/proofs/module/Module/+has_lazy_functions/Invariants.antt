use Rattle.std.proofs.Common.{◌≡◌}
use Rattle.rhd_module.specs.Tree.{subs_of}
use Rattle.rhd_module.specs.Below.{lists_any, some_below}
use Rattle.rhd_module.proofs.module.Module.+has_lazy_functions.Given as goal

abbrev pub invariant-loop-child : goal.invariant-loop-child
invariant-loop-child l = some_below lists_any (subs_of l.initial.child-iterator) ≡ some_below lists_any (subs_of l.child-iterator)
