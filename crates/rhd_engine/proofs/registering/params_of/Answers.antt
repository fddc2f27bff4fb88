use Rattle.std.proofs.Common.{sym, ap, ◌∙◌}
use Rattle.std.specs.Option.{option_copied}
use Rattle.rhd_func.specs.Infos.{infos_of}
use Rattle.rhd_engine.proofs.NativeSays.{known_params, unknown_params}
use Rattle.rhd_engine.proofs.registering.params_of.Goals as goal

pub returns-in-Some : goal.returns-in-Some
unfolding infos_of
returns-in-Some g c =
    known_params (λ b. (goal.PluginFunc-dyn g (b.vtable, b.value)).info b.value) c.args.natives.now.items.items c.args.id c.in-Some.native.now c.params_of_native.result (sym c.get.ensures ∙ ap option_copied c.in-Some.is) c.params_of_native.ensures

pub returns-in-None : goal.returns-in-None
unfolding infos_of
returns-in-None g c =
    unknown_params (λ b. (goal.PluginFunc-dyn g (b.vtable, b.value)).info b.value) c.args.natives.now.items.items c.args.id c.new.result (sym c.get.ensures ∙ ap option_copied c.in-None.is) c.new.ensures
