use Rattle.std.proofs.Common.{rules, ◌≡◌, ◌+◌, length, sym}
use Rattle.std.proofs.lemmas.Result.{IfOk-weaker}
use Rattle.rhd_machine.specs.World.{moment}
use Rattle.rhd_machine.proofs.Stack.{begins_as, asked_goes}
use Rattle.rhd_machine.proofs.run.ask.Goals as goal

pub returns-clause-going : goal.returns-clause-going
returns-clause-going g c = λ modules base call before begun within going.
    let e : c.len.result ≡ length c.args.stack.now.items = search rules in
    let is = rw e at c.in_ok-node.ensures in
    IfOk-weaker c.put.result _ _ (λ hand p. asked_goes _ _ c.args.stack.now.items c.put.new.stack.items base c.args.state.now c.put.new.state call c.args.request before (moment begun c.args.host.now c.args.bodies.now) (moment (begun + 1) c.begin.new.host c.begin.new.bodies) c.outcome_of.result hand
    (begins_as _ _ c.args.state.now _ _ c.in_ok-node.node _ c.outcome_of.result _ _ is (sym c.outcome_of.ensures) (λ begins. c.in_ok-asking.ensures modules c.args.envs.now.items begun begins within)) p going) c.put.ensures.put
