use Rattle.std.proofs.Common.{◌≡◌, ◌∙◌, length, arith}
use Rattle.std.proofs.lemmas.Grind.{common_steps}
use Rattle.rhd_engine.proofs.Unfound.{two_types, is_set_property, other_set_property}
use Rattle.rhd_engine.proofs.missing.set_property.Goals.{in_default-via-then-types-lt2, in_default-via-else-types-lt2+else-types-lt3}
use Rattle.rhd_engine.proofs.missing.set_property.Goals as goal

pub returns-in_ok-text-in-len2 : goal.returns-in_ok-text-in-len2
returns-in_ok-text-in-len2 c =
    let types = two_types c.args.types.now c.object-item.result c.value-item.result c.in-len2.len_at_least c.in-len2.len_below c.object-item.is c.value-item.is in
    is_set_property c.args.pos c.args.property.now c.args.types.now c.object-item.result c.value-item.result _ _ _ types c.as_str.ensures c.as_str-in-len2.ensures (c.in_ok-text-in-len2.ensures ∙ c.in_ok-written-in-len2.ensures.ok)

pub returns-in_ok-what-in_default : goal.returns-in_ok-what-in_default
returns-in_ok-what-in_default c =
    let other : length c.args.types.now ≡ 2 → ⊥ = λ e. elim c.in_default.branch [ in_default-via-then-types-lt2 w ↦ grind (arith, common_steps) | in_default-via-else-types-lt2+else-types-lt3 w ↦ grind (arith, common_steps) ] in
    rw (other_set_property c.args.pos c.args.property.now c.args.types.now _ other (c.as_str-in_default.ensures.value ∙ c.in_ok-what-in_default.ensures.ok)) at c.wrong_number.ensures
