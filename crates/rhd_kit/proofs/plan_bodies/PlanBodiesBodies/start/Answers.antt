use Rattle.rhd_kit.proofs.GivenBack.{back_ok, body_step_back}
use Rattle.rhd_kit.proofs.plan_bodies.PlanBodiesBodies.start.Goals as goal

pub returns-clause-back : goal.returns-clause-back
returns-clause-back c = back_ok _ _ _ (body_step_back c.args.self.now c.args.def.now c.args.this c.args.args) c.first_step.ensures
