use Rattle.std.proofs.Common.{◌∙◌, refl, set}
use Rattle.rhd_layers.specs.Marks.{itself, lacks}
use Rattle.rhd_layers.proofs.Told.{became_told, set_adds, set_first}
use Rattle.rhd_func.specs.Infos.{infos_of}
use Rattle.rhd_layers.proofs.Registers.{registers_raw_first}
use Rattle.rhd_layers.proofs.lists.ModuleList.register_raw_in_first.Goals as goal

pub returns : goal.returns
returns g c =
    registers_raw_first (infos_of (λ z. (goal.PluginFunc-dyn g z).info z.1) c.args.natives.now) c.args.reg c.args.types.now c.args.func c.register_raw-answer.result c.self.inside.items.items c.args.self.now c.index_mut.result.now c.register_raw-answer.new.self c.self.view_is c.requires.first c.index_mut.ensures.value c.register_raw-answer.ensures

pub invariant_of-self : goal.invariant_of-self
invariant_of-self g c =
    let items = c.self.inside.items.items in
    let m = c.register_raw-answer.new.self in
    let same = c.module.ensures ∙ c.index.ensures ∙ set_first items c.args.self.now m c.index.result.now c.self.view_is c.requires.first in
    became_told itself lacks 128 c.self.inside.marks c.self.inside.keys c.add.new.self c.add.new.keys items (set items 0 m) (set items 0 m) c.module.result.now m same refl (set_adds itself items 0 m) c.self.invariant c.add.ensures.grows c.add.ensures.keys c.add.ensures.dynamic
