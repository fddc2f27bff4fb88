use Rattle.std.proofs.Common.{ℕ, refl}
use Rattle.rhd_func.specs.Infos.{infos_of}
use Rattle.rhd_decl.specs.declared.metadata.FuncMetadata.{FuncMetadata}
use Rattle.rhd_module.proofs.Both.{getter_refused, setter_refused}
use Rattle.rhd_module.proofs.module.Module.put_both.Goals as goal

pub returns-in-Err-clause-registers : goal.returns-in-Err-clause-registers
unfolding infos_of
returns-in-Err-clause-registers g c =
    let infos = infos_of (λ b. (goal.PluginFunc-dyn g b).info b.1) c.args.natives.now in
    getter_refused FuncMetadata (ℕ × ℕ) infos c.args.get_reg c.args.get c.args.set_reg c.args.set c.args.self.now _ _ _ _ c.in_ok-refuse_pair.ensures c.in_ok-copy.ensures c.in-Err.ensures.registers refl

pub returns-in-Err-put_registered-clause-registers : goal.returns-in-Err-put_registered-clause-registers
unfolding infos_of
returns-in-Err-put_registered-clause-registers g c =
    let infos = infos_of (λ b. (goal.PluginFunc-dyn g b).info b.1) c.args.natives.now in
    setter_refused FuncMetadata (ℕ × ℕ) FuncMetadata infos c.args.get_reg c.args.get c.args.set_reg c.args.set c.args.self.now _ _ _ _ c.in-Ok.metadata _ c.in_ok-refuse_pair.ensures c.in_ok-copy.ensures c.in-Ok.ensures.registers
    c.in-Err-put_registered.ensures.registers refl
