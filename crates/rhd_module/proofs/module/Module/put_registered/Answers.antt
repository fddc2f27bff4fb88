use Rattle.std.proofs.Common.{refl, sym}
use Rattle.rhd_func.specs.Infos.{infos_of}
use Rattle.rhd_decl.specs.declared.metadata.FuncMetadata.{FuncMetadata}
use Rattle.rhd_module.proofs.Refusals.{held_registers, held_metadata, unheld_fault}
use Rattle.rhd_decl.proofs.Numbers.{says_itself}
use Rattle.rhd_module.proofs.module.Module.put_registered.Goals as goal

pub returns-in-Some-clause-registers : goal.returns-in-Some-clause-registers
unfolding infos_of
returns-in-Some-clause-registers g c =
    let infos = infos_of (λ b. (goal.PluginFunc-dyn g b).info b.1) c.args.natives.now in
    held_registers infos c.args.reg c.args.id c.args.self.now _ _ _ (says_itself _ c.args.natives.now.items.items c.args.id.0 c.in-Some.native.now (sym c.in-Some.ensures)) c.put_held.ensures.puts

pub returns-in-Some-clause-metadata : goal.returns-in-Some-clause-metadata
unfolding infos_of
returns-in-Some-clause-metadata g c =
    let infos = infos_of (λ b. (goal.PluginFunc-dyn g b).info b.1) c.args.natives.now in
    held_metadata infos c.args.reg c.args.id c.args.self.now _ _ (says_itself _ c.args.natives.now.items.items c.args.id.0 c.in-Some.native.now (sym c.in-Some.ensures)) c.put_held.ensures.metadata

pub returns-in-None-clause-registers : goal.returns-in-None-clause-registers
unfolding infos_of
returns-in-None-clause-registers g c =
    unheld_fault FuncMetadata (λ b. (goal.PluginFunc-dyn g (b.vtable, b.value)).info b.value) c.args.natives.now.items.items c.args.reg c.args.id c.args.self.now _ _ (sym c.in-None.ensures) c.unknown.ensures refl
