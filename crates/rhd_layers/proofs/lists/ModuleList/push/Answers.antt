use Rattle.std.proofs.Common.{◌++◌, ◌∷◌, []}
use Rattle.rhd_layers.specs.Marks.{itself, lacks}
use Rattle.rhd_layers.proofs.Told.{became_told, still_told, pushed_adds}
use Rattle.rhd_layers.proofs.lists.ModuleList.push.Goals as goal

pub invariant_of-self-2 : goal.invariant_of-self-2
invariant_of-self-2 c =
    let items = c.self.inside.items.items in
    became_told itself lacks 128 c.self.inside.marks c.self.inside.keys c.add.new.self c.add.new.keys items c.push.new.self.items (items ++ c.args.added ∷ []) c.module.result.now c.args.added c.module.ensures c.in_ok-push.ensures.items (pushed_adds itself items c.args.added) c.self.invariant c.add.ensures.grows c.add.ensures.keys c.add.ensures.dynamic

pub invariant_of-self : goal.invariant_of-self
invariant_of-self c =
    still_told itself lacks 128 c.self.inside.marks c.self.inside.keys c.add.new.self c.add.new.keys c.self.inside.items.items c.push.new.self.items c.in_err-push.ensures.items c.self.invariant c.add.ensures.grows
