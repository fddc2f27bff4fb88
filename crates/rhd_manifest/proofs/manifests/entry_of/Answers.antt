use Rattle.std.proofs.Common.{refl}
use Rattle.rhd_func.specs.Infos.{infos_of}
use Rattle.rhd_manifest.proofs.Held.{held_info, unheld_info, entry_is, ok_is}
use Rattle.rhd_manifest.proofs.manifests.entry_of.Goals as goal

pub returns-in-Some : goal.returns-in-Some
unfolding infos_of
returns-in-Some g c =
    let ns = c.args.natives.now.items.items in
    ok_is c.entry_for.result _ _
    (entry_is _ c.args.name _ c.args.namespace c.args.func _ _ _ refl (held_info (λ b. (goal.PluginFunc-dyn g (b.vtable, b.value)).info b.value) ns c.args.func.0 c.in-Some.native.now c.in-Some.ensures) refl refl)
    c.entry_for.ensures

pub returns-in-None : goal.returns-in-None
unfolding infos_of
returns-in-None g c =
    let ns = c.args.natives.now.items.items in
    ok_is c.new-in-None.result _ _
    (entry_is _ c.args.name _ c.args.namespace c.args.func _ _ _ refl (unheld_info (λ b. (goal.PluginFunc-dyn g (b.vtable, b.value)).info b.value) ns c.args.func.0 c.in-None.ensures) c.new.ensures refl)
    c.new-in-None.ensures
