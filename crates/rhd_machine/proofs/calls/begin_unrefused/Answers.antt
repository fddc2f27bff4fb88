use Rattle.std.proofs.Common.{sym, ◌∙◌}
use Rattle.rhd_call.specs.Seen.{seen}
use Rattle.rhd_engine.specs.Of.{lists_of}
use Rattle.rhd_machine.specs.World.{moment}
use Rattle.rhd_machine.specs.Objects.{objects_of}
use Rattle.rhd_machine.specs.Runs.{ended}
use Rattle.rhd_machine.specs.Waits.{it_is_answered}
use Rattle.rhd_machine.proofs.Found.{decided_constant, decided_runs}
use Rattle.rhd_machine.proofs.Unpicked.{as_picked, unpicked_runs}
use Rattle.rhd_machine.proofs.calls.begin_unrefused.Goals as goal

pub returns-then-on_constant : goal.returns-then-on_constant
unfolding lists_of
returns-then-on_constant g c = λ modules environs begun begins within unrefused.
    let pick = sym c.in-Some.is ∙ c.in_ok-pick.ensures.pick in
    it_is_answered (ended within (decided_constant (lists_of (λ z. (goal.PluginFunc-dyn g z).info z.1) c.args.engine.now) c.args.state.now (seen c.args.node.now).level (seen c.args.node.now).call c.in-Some.pick unrefused pick (sym c.on_constant.ensures ∙ c.if-on_constant.true)) (c.in_ok-refuse_constant-in-Some.ensures ∙ as_picked (seen c.args.node.now) c.in-Some.pick _ begins))

pub returns-else-on_constant : goal.returns-else-on_constant
returns-else-on_constant g c = λ modules environs begun begins within unrefused.
    let pick = sym c.in-Some.is ∙ c.in_ok-pick.ensures.pick in
    c.begin_picked.ensures modules environs begun c.args.host.now begins within (decided_runs (lists_of (λ z. (goal.PluginFunc-dyn g z).info z.1) c.args.engine.now) c.args.state.now (seen c.args.node.now).level (seen c.args.node.now).call c.in-Some.pick unrefused pick (sym c.on_constant.ensures ∙ c.if-on_constant.false))

pub returns-in_ok-unpicked-in-None : goal.returns-in_ok-unpicked-in-None
unfolding lists_of objects_of
returns-in_ok-unpicked-in-None g c = λ modules environs begun begins within unrefused.
    let none = sym c.in-None.is ∙ c.in_ok-pick.ensures.pick in
    it_is_answered (unpicked_runs _ _ c.args.state.now c.args.node.now c.unpicked.new.node (moment begun c.args.host.now c.args.bodies.now) c.unpicked.new.host begins within unrefused none c.in_ok-unpicked-in-None.ensures.alone c.in_ok-unpicked-in-None.ensures.asked)
