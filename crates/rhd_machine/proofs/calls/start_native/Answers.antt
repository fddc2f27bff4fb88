use Rattle.std.proofs.Common.{sym, ap, ◌∙◌, Bool}
use Rattle.rhd_call.specs.Seen.{seen}
use Rattle.rhd_func.specs.Infos.{infos_of}
use Rattle.rhd_func.specs.Natives.{StartAllowed}
use Rattle.rhd_machine.specs.Entered.{context, context_if}
use Rattle.rhd_machine.specs.Plans.{plan_of}
use Rattle.rhd_machine.proofs.Stepped.{handed_as}
use Rattle.rhd_machine.proofs.calls.start_native.Goals as goal

pub returns-then-has_context-clause-step : goal.returns-then-has_context-clause-step
unfolding infos_of
returns-then-has_context-clause-step g c = handed_as c.start_in_context.result (λ handed. StartAllowed (λ b. (goal.PluginFunc-dyn g (b.vtable, b.value)).allows_call b.value) c.args.natives.now.items.items c.args.id handed c.args.received.first c.args.received.args) _ _
    (ap (λ (b : Bool). context_if b (context c.args.state.now (seen c.args.node.now).level (plan_of (seen c.args.node.now).call) c.args.pick.now)) (sym c.if-has_context.true ∙ c.has_context.ensures)) c.start_in_context.ensures.step

pub returns-clause-step : goal.returns-clause-step
unfolding infos_of
returns-clause-step g c = handed_as c.start.result (λ handed. StartAllowed (λ b. (goal.PluginFunc-dyn g (b.vtable, b.value)).allows_call b.value) c.args.natives.now.items.items c.args.id handed c.args.received.first c.args.received.args) _ _
    (ap (λ (b : Bool). context_if b (context c.args.state.now (seen c.args.node.now).level (plan_of (seen c.args.node.now).call) c.args.pick.now)) (sym c.if-has_context.false ∙ c.has_context.ensures)) c.start.ensures.step
