use Rattle.std.proofs.Common.{◌≡◌, take}
use Rattle.rhd_plan.proofs.body.CallPlans.dup.Given as goal

abbrev pub invariant-loop-call : goal.invariant-loop-call
invariant-loop-call l = l.calls ≡ take l.call-index l.call-items
