use Rattle.std.proofs.Common.{◌∙◌, refl, set}
use Rattle.rhd_layers.specs.Marks.{itself, lacks}
use Rattle.rhd_layers.proofs.Told.{became_told, set_adds, set_first}
use Rattle.rhd_func.specs.Infos.{infos_of}
use Rattle.rhd_layers.proofs.Registers.{registers_both_first}
use Rattle.rhd_layers.proofs.lists.ModuleList.register_both_in_first.Goals as goal

pub returns : goal.returns
returns g c =
    registers_both_first (infos_of (λ z. (goal.PluginFunc-dyn g z).info z.1) c.args.natives.now) c.args.get_reg c.args.get c.args.set_reg c.args.set c.register_both-answer.result c.self.inside.items.items c.args.self.now c.index_mut.result.now c.register_both-answer.new.self c.self.view_is c.requires c.index_mut.ensures.value c.register_both-answer.ensures

pub invariant_of-self : goal.invariant_of-self
invariant_of-self g c =
    let items = c.self.inside.items.items in
    let m = c.register_both-answer.new.self in
    let same = c.module.ensures ∙ c.index.ensures ∙ set_first items c.args.self.now m c.index.result.now c.self.view_is c.requires in
    became_told itself lacks 128 c.self.inside.marks c.self.inside.keys c.add.new.self c.add.new.keys items (set items 0 m) (set items 0 m) c.module.result.now m same refl (set_adds itself items 0 m) c.self.invariant c.add.ensures.grows c.add.ensures.keys c.add.ensures.dynamic
