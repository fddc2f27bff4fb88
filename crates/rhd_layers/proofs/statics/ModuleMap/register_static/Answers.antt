use Rattle.std.proofs.Common.{◌∙◌}
use Rattle.rhd_layers.proofs.Placed.{places}
use Rattle.rhd_layers.proofs.statics.ModuleMap.register_static.Goals as goal

pub returns : goal.returns
returns c =
    places c.args.seeds c.args.name c.args.added c.as_slice.result.now c.args.self.now c.place_parts.new.self c.place_parts.result (c.as_slice.ensures ∙ c.in_ok-parts.ensures) c.place_parts.ensures.ok c.place_parts.ensures.clear c.place_parts.ensures.err c.place_parts.ensures.refused
