use Rattle.std.proofs.Common.{◌≡◌, ◌∙◌, length, arith}
use Rattle.std.proofs.lemmas.Grind.{common_steps}
use Rattle.rhd_engine.proofs.Unfound.{three_types, is_set_index, other_set_index}
use Rattle.rhd_engine.proofs.missing.set_index.Goals.{in_default-via-then-types-lt3, in_default-via-else-types-lt3+else-types-lt4}
use Rattle.rhd_engine.proofs.missing.set_index.Goals as goal

pub returns-in_ok-text-in-len3 : goal.returns-in_ok-text-in-len3
returns-in_ok-text-in-len3 c =
    let types = three_types c.args.types.now c.object-item.result c.index-item.result c.value-item.result c.in-len3.len_at_least c.in-len3.len_below c.object-item.is c.index-item.is c.value-item.is in
    is_set_index c.args.pos c.args.types.now c.object-item.result c.index-item.result c.value-item.result _ _ _ _ types c.as_str.ensures c.as_str-in-len3.ensures c.as_str-in-len3-2.ensures (c.in_ok-text-in-len3.ensures ∙ c.in_ok-written-in-len3.ensures.ok)

pub returns-in_default : goal.returns-in_default
returns-in_default c =
    let other : length c.args.types.now ≡ 3 → ⊥ = λ e. elim c.in_default.branch [ in_default-via-then-types-lt3 w ↦ grind (arith, common_steps) | in_default-via-else-types-lt3+else-types-lt4 w ↦ grind (arith, common_steps) ] in
    rw (other_set_index c.args.pos c.args.types.now other) at c.wrong_number.ensures
