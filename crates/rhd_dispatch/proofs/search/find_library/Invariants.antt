use Rattle.std.proofs.Common.{take}
use Rattle.rhd_call.specs.declared.pick.Layer.TheVariants.{Library}
use Rattle.rhd_dispatch.specs.Walks.{in_own, latest}
use Rattle.rhd_dispatch.proofs.Passes.{Passed}
use Rattle.rhd_dispatch.proofs.search.find_library.Given as goal

abbrev pub invariant-loop-number : goal.invariant-loop-number
invariant-loop-number l = Passed (in_own Library l.key) (latest l.libs) (latest (take l.number l.libs)) l.initial.steps l.steps
