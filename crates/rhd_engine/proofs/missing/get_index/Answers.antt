use Rattle.std.proofs.Common.{◌∙◌}
use Rattle.rhd_engine.proofs.Unfound.{two_types, is_get_index}
use Rattle.rhd_engine.proofs.missing.get_index.Goals as goal

pub returns-in_ok-text-in-len2 : goal.returns-in_ok-text-in-len2
returns-in_ok-text-in-len2 c =
    let types = two_types c.args.types.now c.object-item.result c.index-item.result c.in-len2.len_at_least c.in-len2.len_below c.object-item.is c.index-item.is in
    is_get_index c.args.pos c.args.types.now c.object-item.result c.index-item.result _ _ _ types c.as_str.ensures c.as_str-in-len2.ensures (c.in_ok-text-in-len2.ensures ∙ c.in_ok-written-in-len2.ensures.ok)
