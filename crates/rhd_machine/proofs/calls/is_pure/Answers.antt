use Rattle.std.proofs.Common.{ap, ◌∙◌}
use Rattle.rhd_func.specs.Funcs.{is_pure}
use Rattle.rhd_func.specs.Infos.{infos_of}
use Rattle.rhd_engine.specs.Of.{lists_of}
use Rattle.rhd_machine.proofs.Stepped.{pure_asked}
use Rattle.rhd_machine.proofs.calls.is_pure.Goals as goal

pub returns : goal.returns
unfolding lists_of infos_of
returns g c = c.is_pure.ensures ∙ pure_asked (λ z. (goal.PluginFunc-dyn g z).info z.1) c.args.func.now _ _ c.natives.ensures
