use Rattle.std.proofs.Common.{◌∙◌}
use Rattle.rhd_call.specs.Seen.{seen}
use Rattle.rhd_engine.specs.Of.{lists_of}
use Rattle.rhd_machine.specs.Runs.{ended}
use Rattle.rhd_machine.specs.Waits.{it_is_answered}
use Rattle.rhd_machine.proofs.Found.{decided_by_fault, not_refused}
use Rattle.rhd_machine.proofs.Unpicked.{as_ended}
use Rattle.rhd_machine.proofs.calls.begin.Goals as goal

pub returns-in_ok-fail-in-Some : goal.returns-in_ok-fail-in-Some
unfolding lists_of
returns-in_ok-fail-in-Some g c = λ modules environs begun begins within.
    it_is_answered (ended within (decided_by_fault (lists_of (λ z. (goal.PluginFunc-dyn g z).info z.1) c.args.engine.now) c.args.state.now (seen c.args.node.now).level (seen c.args.node.now).call _ c.in-Some.fault c.in_ok-fault.ensures c.in-Some.is) (c.in_ok-fail-in-Some.ensures ∙ as_ended (seen c.args.node.now) _ begins))

pub returns-in-None : goal.returns-in-None
returns-in-None g c = λ modules environs begun begins within.
    c.begin_unrefused.ensures modules environs begun begins within (not_refused (lists_of (λ z. (goal.PluginFunc-dyn g z).info z.1) c.args.engine.now) c.args.state.now (seen c.args.node.now).level (seen c.args.node.now).call _ c.in_ok-fault.ensures c.in-None.is)
