use Rattle.std.proofs.Common.{◌≡◌, take}
use Rattle.rhd_plan.proofs.body.BodyPlans.dup.Given as goal

abbrev pub invariant-loop-body : goal.invariant-loop-body
invariant-loop-body l = l.bodies ≡ take l.body-index l.body-items
