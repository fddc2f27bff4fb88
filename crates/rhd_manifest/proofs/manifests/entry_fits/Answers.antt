use Rattle.std.proofs.Common.{sym, ◌∙◌}
use Rattle.rhd_func.specs.Infos.{infos_of}
use Rattle.rhd_manifest.proofs.Held.{held_info, unheld_info, fits_held}
use Rattle.rhd_manifest.proofs.manifests.entry_fits.Goals as goal

pub returns-in-Some : goal.returns-in-Some
unfolding infos_of
returns-in-Some g c =
    let ns = c.args.natives.now.items.items in
    c.is_for.ensures
    ∙ sym (fits_held _ c.args.entry.now c.func.result _ c.func.ensures (held_info (λ b. (goal.PluginFunc-dyn g (b.vtable, b.value)).info b.value) ns c.func.result.0 c.in-Some.native.now c.in-Some.ensures))

pub returns-in-None : goal.returns-in-None
unfolding infos_of
returns-in-None g c =
    let ns = c.args.natives.now.items.items in
    sym (fits_held _ c.args.entry.now c.func.result _ c.func.ensures (unheld_info (λ b. (goal.PluginFunc-dyn g (b.vtable, b.value)).info b.value) ns c.func.result.0 c.in-None.ensures))
