use Rattle.std.proofs.Common.{◌∙◌, refl, set}
use Rattle.rhd_layers.specs.Marks.{itself, lacks}
use Rattle.rhd_layers.proofs.Told.{became_told, set_adds, set_first}
use Rattle.rhd_layers.proofs.lists.ModuleList.set_type_in_first.Goals as goal

pub invariant_of-self : goal.invariant_of-self
invariant_of-self c =
    let items = c.self.inside.items.items in
    let m = c.set_custom_type_raw-answer.new.self in
    let same = c.module.ensures ∙ c.index.ensures ∙ set_first items c.args.self.now m c.index.result.now c.self.view_is c.requires in
    became_told itself lacks 128 c.self.inside.marks c.self.inside.keys c.add.new.self c.add.new.keys items (set items 0 m) (set items 0 m) c.module.result.now m same refl (set_adds itself items 0 m) c.self.invariant c.add.ensures.grows c.add.ensures.keys c.add.ensures.dynamic
