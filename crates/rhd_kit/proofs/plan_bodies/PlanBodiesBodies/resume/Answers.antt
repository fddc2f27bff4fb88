use Rattle.rhd_kit.proofs.GivenBack.{back_ok, body_next_back}
use Rattle.rhd_kit.proofs.plan_bodies.PlanBodiesBodies.resume.Goals as goal

pub returns-clause-back : goal.returns-clause-back
returns-clause-back c = back_ok _ _ _ (body_next_back c.args.self.now c.args.def.now c.args.carry c.args.done.answer) c.next_step.ensures
