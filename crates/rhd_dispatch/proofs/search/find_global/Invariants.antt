use Rattle.std.proofs.Common.{drop}
use Rattle.std.specs.List.{enumerate_from}
use Rattle.rhd_call.specs.declared.pick.Layer.TheVariants.{Global}
use Rattle.rhd_dispatch.specs.Walks.{in_own, numbered}
use Rattle.rhd_dispatch.proofs.Passes.{Passed}
use Rattle.rhd_dispatch.proofs.search.find_global.Given as goal

abbrev pub invariant-loop-number : goal.invariant-loop-number
invariant-loop-number l = Passed (in_own Global l.key) (numbered l.globals) (enumerate_from l.number (drop l.number l.globals)) l.initial.steps l.steps
