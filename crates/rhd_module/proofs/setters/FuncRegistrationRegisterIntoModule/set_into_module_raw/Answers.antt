use Rattle.std.proofs.Common.{sym, ◌∙◌}
use Rattle.rhd_func.specs.Infos.{infos_of}
use Rattle.rhd_module.proofs.Refusals.{raw_registers, raw_metadata}
use Rattle.rhd_module.proofs.setters.FuncRegistrationRegisterIntoModule.set_into_module_raw.Goals as goal

pub returns-clause-registers : goal.returns-clause-registers
unfolding infos_of
returns-clause-registers g c =
    let infos = infos_of (λ b. (goal.PluginFunc-dyn g b).info b.1) c.args.natives.now in
    raw_registers infos c.args.self c.args.types.now c.args.func c.args.target.now _ _ _ c.is_method-is_method.ensures (sym c.raw_refusal.ensures ∙ c.in_default.is) c.put_allowed.ensures.puts

pub returns-clause-metadata : goal.returns-clause-metadata
unfolding infos_of
returns-clause-metadata g c =
    let infos = infos_of (λ b. (goal.PluginFunc-dyn g b).info b.1) c.args.natives.now in
    raw_metadata infos c.args.self c.args.types.now c.args.func c.args.target.now _ _ c.is_method-is_method.ensures c.put_allowed.ensures.metadata
