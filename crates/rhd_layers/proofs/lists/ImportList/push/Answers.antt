use Rattle.std.proofs.Common.{◌++◌, ◌∷◌, [], ap, ◌∙◌}
use Rattle.rhd_layers.specs.Lists.{all_indexed}
use Rattle.rhd_layers.specs.Marks.{named_one, lacks_below}
use Rattle.rhd_layers.proofs.Indexed.{pushed}
use Rattle.rhd_layers.proofs.Told.{became_told, still_told, pushed_adds}
use Rattle.rhd_layers.proofs.lists.ImportList.push.Goals as goal

pub invariant_of-self-2 : goal.invariant_of-self-2
invariant_of-self-2 c =
    let es = c.self.inside.items.items in
    let is = c.in_ok-push.ensures.items in (
      ap all_indexed is ∙ pushed es c.args.name c.args.added c.requires c.self.invariant.0,
      became_told named_one lacks_below 128 c.self.inside.marks c.self.inside.keys c.add_tree.new.self c.add_tree.new.keys es c.push.new.self.items (es ++ (c.args.name, c.args.added) ∷ []) c.module.result.now c.args.added c.module.ensures is
          (pushed_adds named_one es (c.args.name, c.args.added)) c.self.invariant.1 c.add_tree.ensures.grows c.add_tree.ensures.keys c.add_tree.ensures.dynamic,
    )

pub invariant_of-self : goal.invariant_of-self
invariant_of-self c =
    let is = c.in_err-push.ensures.items in
    (ap all_indexed is ∙ c.self.invariant.0, still_told named_one lacks_below 128 c.self.inside.marks c.self.inside.keys c.add_tree.new.self c.add_tree.new.keys c.self.inside.items.items c.push.new.self.items is c.self.invariant.1 c.add_tree.ensures.grows)
