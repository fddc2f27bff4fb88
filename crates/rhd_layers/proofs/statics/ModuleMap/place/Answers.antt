use Rattle.std.proofs.Common.{ap, ◌∙◌}
use Rattle.std.specs.Option.{option_copied}
use Rattle.rhd_module.specs.Tree.{ModuleTree}
use Rattle.rhd_layers.proofs.Placed.{placed_indexed}
use Rattle.rhd_layers.proofs.statics.ModuleMap.place.Goals as goal

pub insert-requires : goal.insert-requires
insert-requires c =
    ap (λ (m : ModuleTree). m.own.indexed) c.in_ok-made.ensures.made ∙ placed_indexed c.args.seeds c.args.added c.args.part.now c.args.more.now (option_copied c.module_of.result)
