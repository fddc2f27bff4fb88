-- What is still to be put in makes of the values so far what all makes of the values given.
use Rattle.std.proofs.Common.{◌≡◌, drop}
use Rattle.std.specs.Option.{option_copied}
use Rattle.rhd_kit.specs.PlanBodies.{with_given}
use Rattle.rhd_kit.proofs.plan_bodies.put_given.Given as goal

abbrev pub invariant-loop-place : goal.invariant-loop-place
invariant-loop-place l = with_given (record { object = option_copied l.object; latest = option_copied l.latest; args = l.args }) (drop l.place-index l.places) l.values ≡ with_given (record { object = option_copied l.object; latest = option_copied l.latest; args = l.args }) l.places l.initial.values
