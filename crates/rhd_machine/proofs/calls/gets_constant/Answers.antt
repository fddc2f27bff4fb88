use Rattle.std.proofs.Common.{◌∙◌}
use Rattle.rhd_engine.specs.Of.{lists_of}
use Rattle.rhd_machine.specs.Plans.{plan_of}
use Rattle.rhd_machine.proofs.Stepped.{constant_asked}
use Rattle.rhd_machine.proofs.calls.gets_constant.Goals as goal

pub returns : goal.returns
unfolding lists_of
returns g c = c.receives_constant.ensures ∙ constant_asked (λ z. (goal.PluginFunc-dyn g z).info z.1) c.args.func.now (plan_of c.args.call.now).shape _ _ c.natives.ensures
