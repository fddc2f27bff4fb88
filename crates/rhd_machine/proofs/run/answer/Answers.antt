use Rattle.std.proofs.lemmas.Result.{IfOk-weaker}
use Rattle.rhd_machine.specs.World.{moment}
use Rattle.rhd_machine.proofs.Stack.{answered_goes, left_above}
use Rattle.rhd_machine.proofs.Environs.{above_trans}
use Rattle.rhd_machine.proofs.run.answer.Goals as goal

pub returns-clause-going : goal.returns-clause-going
returns-clause-going g c = λ modules base call before begun host going.
    IfOk-weaker c.put.result _ _ (λ hand p. answered_goes _ _ c.args.stack.now.items c.put.new.stack.items c.args.frame c.args.node base c.args.state.now c.give_back.new.state c.put.new.state call before (moment begun host c.args.bodies.now) (moment begun host c.resume.new.bodies) c.in_ok-outcome.outcome hand c.give_back.ensures
    (λ level own waited from mid opened runs. c.in_ok-outcome.ensures modules c.args.envs.now.items level begun host c.args.state.now own waited from mid opened runs) p going) c.put.ensures.put

pub returns-in_err-outcome-clause-above : goal.returns-in_err-outcome-clause-above
returns-in_err-outcome-clause-above g c = λ modules base call before begun host going.
    left_above _ _ c.args.stack.now.items c.args.frame base c.args.state.now c.give_back.new.state call before (moment begun host c.args.bodies.now) _ going c.give_back.ensures

pub returns-clause-above : goal.returns-clause-above
returns-clause-above g c = λ modules base call before begun host going.
    above_trans base c.give_back.new.state c.put.new.state
    (left_above _ _ c.args.stack.now.items c.args.frame base c.args.state.now c.give_back.new.state call before (moment begun host c.args.bodies.now) _ going c.give_back.ensures) c.put.ensures.above
