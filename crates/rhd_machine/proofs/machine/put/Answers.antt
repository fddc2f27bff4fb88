use Rattle.rhd_machine.proofs.Stack.{puts_frame, puts_node}
use Rattle.rhd_machine.proofs.machine.put.Goals as goal

pub returns-in_ok-wait-in-Waiting-clause-put : goal.returns-in_ok-wait-in-Waiting-clause-put
returns-in_ok-wait-in-Waiting-clause-put c =
    puts_frame c.args.envs.now.items c.args.stack.now.items _ c.args.state.now _ c.args.outcome c.in-Waiting.suspended c.in-Waiting.asked c.in-Waiting.is c.in_ok-wait-in-Waiting.ensures.ok

pub returns-in-Finished-clause-put : goal.returns-in-Finished-clause-put
returns-in-Finished-clause-put c = puts_node c.args.envs.now.items c.args.stack.now.items c.args.state.now c.args.outcome c.in-Finished.node c.in-Finished.is
