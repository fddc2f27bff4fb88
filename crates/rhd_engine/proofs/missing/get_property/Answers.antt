use Rattle.std.proofs.Common.{◌≡◌, ◌∙◌, length, arith}
use Rattle.std.proofs.lemmas.Grind.{common_steps}
use Rattle.rhd_engine.proofs.Unfound.{one_type, is_get_property, other_get_property}
use Rattle.rhd_engine.proofs.missing.get_property.Goals.{in_default-via-then-types-lt1, in_default-via-else-types-lt1+else-types-lt2}
use Rattle.rhd_engine.proofs.missing.get_property.Goals as goal

pub returns-in_ok-text-in-len1 : goal.returns-in_ok-text-in-len1
returns-in_ok-text-in-len1 c =
    let types = one_type c.args.types.now c.object-item.result c.in-len1.len_at_least c.in-len1.len_below c.object-item.is in
    is_get_property c.args.pos c.args.property.now c.args.types.now c.object-item.result _ _ types c.as_str.ensures (c.in_ok-text-in-len1.ensures ∙ c.in_ok-written-in-len1.ensures.ok)

pub returns-in_ok-what-in_default : goal.returns-in_ok-what-in_default
returns-in_ok-what-in_default c =
    let other : length c.args.types.now ≡ 1 → ⊥ = λ e. elim c.in_default.branch [ in_default-via-then-types-lt1 w ↦ grind (arith, common_steps) | in_default-via-else-types-lt1+else-types-lt2 w ↦ grind (arith, common_steps) ] in
    rw (other_get_property c.args.pos c.args.property.now c.args.types.now _ other (c.as_str-in_default.ensures.value ∙ c.in_ok-what-in_default.ensures.ok)) at c.wrong_number.ensures
