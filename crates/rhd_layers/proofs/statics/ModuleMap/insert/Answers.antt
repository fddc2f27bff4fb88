use Rattle.std.proofs.Common.{ap, ◌∙◌}
use Rattle.rhd_module.specs.Tree.{ModuleTree}
use Rattle.rhd_layers.specs.Lists.{all_indexed, put_module}
use Rattle.rhd_layers.specs.Marks.{named_one, lacks_below}
use Rattle.rhd_layers.proofs.Indexed.{put_indexed}
use Rattle.rhd_layers.proofs.Told.{became_told, still_told, put_adds}
use Rattle.rhd_layers.proofs.statics.ModuleMap.insert.Goals as goal

pub invariant_of-self-2 : goal.invariant_of-self-2
invariant_of-self-2 c =
    let es = c.self.inside.modules.entries in
    let added = c.in_ok-added.added in
    let is = c.in_ok-insert.ensures.entries in (
      ap all_indexed is ∙ put_indexed es c.args.name added (ap (λ (m : ModuleTree). m.own.indexed) c.in_ok-added.ensures ∙ c.requires) c.self.invariant.0,
      became_told named_one lacks_below 8192 c.self.inside.marks c.self.inside.keys c.add_wide.new.self c.add_wide.new.keys es c.insert.new.self.entries (put_module c.args.name added es) c.module.result.now added c.module.ensures is
          (put_adds es c.args.name added) c.self.invariant.1 c.add_wide.ensures.grows c.add_wide.ensures.keys c.add_wide.ensures.dynamic,
    )

pub invariant_of-self : goal.invariant_of-self
invariant_of-self c =
    let is = c.in_err-insert.ensures.err in
    (ap all_indexed is ∙ c.self.invariant.0, still_told named_one lacks_below 8192 c.self.inside.marks c.self.inside.keys c.add_wide.new.self c.add_wide.new.keys c.self.inside.modules.entries c.insert.new.self.entries is c.self.invariant.1 c.add_wide.ensures.grows)
