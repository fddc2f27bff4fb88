use Rattle.std.proofs.Common.{ap}
use Rattle.std.specs.Prelude.{Some}
use Rattle.rhd_func.specs.Natives.{StartAllowed}
use Rattle.rhd_machine.proofs.Stepped.{handed_as}
use Rattle.rhd_machine.proofs.calls.start_in_context.Goals as goal

pub returns-clause-step : goal.returns-clause-step
returns-clause-step g c = handed_as c.start.result (λ handed. StartAllowed (λ b. (goal.PluginFunc-dyn g (b.vtable, b.value)).allows_call b.value) c.args.natives.now.items.items c.args.id handed c.args.received.first c.args.received.args) _ _ (ap Some c.in_ok-ctx.ensures) c.start.ensures.step
