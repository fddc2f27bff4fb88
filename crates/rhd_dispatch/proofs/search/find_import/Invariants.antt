use Rattle.std.proofs.Common.{take}
use Rattle.rhd_call.specs.declared.pick.Layer.TheVariants.{Import}
use Rattle.rhd_dispatch.specs.Walks.{in_tree, latest}
use Rattle.rhd_dispatch.proofs.Passes.{Passed}
use Rattle.rhd_dispatch.proofs.search.find_import.Given as goal

abbrev pub invariant-loop-number : goal.invariant-loop-number
invariant-loop-number l = Passed (in_tree Import l.key) (latest l.imports) (latest (take l.number l.imports)) l.initial.steps l.steps
