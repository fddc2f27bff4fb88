use Rattle.std.proofs.Common.{◌≡◌, ◌+◌, true, length}
use Rattle.std.specs.List.{enumerate_from}
use Rattle.rhd_call.specs.declared.pick.Layer.TheVariants.{Static}
use Rattle.rhd_layers.specs.Lists.{all_indexed}
use Rattle.rhd_dispatch.specs.Walks.{in_tree, numbered}
use Rattle.rhd_dispatch.proofs.Passes.{Passed}
use Rattle.rhd_dispatch.proofs.search.find_static.Given as goal

abbrev pub invariant-loop-name : goal.invariant-loop-name
invariant-loop-name l = (l.number + length l._name-iterator ≡ length l.statics) × (all_indexed l._name-iterator ≡ true) × Passed (in_tree Static l.key) (numbered l.statics) (enumerate_from l.number l._name-iterator) l.initial.steps l.steps
