use Rattle.std.proofs.Common.{◌<◌, ◌*◌, length, get_or, ap, refl, sym, arith}
use Rattle.rhd_value.specs.declared.tag.TypeTag.TheVariants.{Unit}
use Rattle.rhd_hash.specs.Keys.{key_types}
use Rattle.rhd_dispatch.proofs.Looks.{leaf_missed, first_less, both_less}
use Rattle.rhd_dispatch.proofs.Passes.{map_some, map_none}
use Rattle.rhd_dispatch.proofs.Typed.{typed_missed, typed_missed_last, typed_missed_over, typed_found, typed_changed, typed_back, typed_within, typed_dynamic, typed_hash, typed_left}
use Rattle.rhd_dispatch.proofs.patterns.+find_others.Goals as goal

pub returns-then-not-may_match-clause-found : goal.returns-then-not-may_match-clause-found
returns-then-not-may_match-clause-found g m c = sym (typed_missed (g.L.Look.look c.args.look) c.args.key.now c.args.place c.requires.within c.requires.missed (c.may_match.ensures c.if-not-may_match.true))

pub returns-then-place-ge-MOST_CHANGED-clause-found : goal.returns-then-place-ge-MOST_CHANGED-clause-found
returns-then-place-ge-MOST_CHANGED-clause-found g m c = typed_missed_last (g.L.Look.look c.args.look) c.args.key.now c.args.place c.if-place-ge-MOST_CHANGED.true c.requires.missed

pub returns-then-place-types-clause-found : goal.returns-then-place-types-clause-found
returns-then-place-types-clause-found g m c = typed_missed_over (g.L.Look.look c.args.look) c.args.key.now c.args.place (omega (arith, c.if-place-types.true, ap length c.types-types.ensures)) c.requires.missed

pub returns-then-is_some-clause-found : goal.returns-then-is_some-clause-found
returns-then-is_some-clause-found g m c =
    let types = c.types-types.result.now in
    let small : c.args.place < 16 = omega arith in
    let within : c.args.place < length types = omega arith in
    let t = get_or types c.args.place Unit in
    typed_found (g.L.Look.look c.args.look) c.args.key.now c.args.place types t c.types-types.ensures small within refl _ c.find_others-others.ensures.found (map_some g.L.Look.pick c.find_others-others.result _ c.is_some.ensures c.if-is_some.true)

pub returns-clause-found : goal.returns-clause-found
returns-clause-found g m c =
    let types = c.types-types.result.now in
    let small : c.args.place < 16 = omega arith in
    let within : c.args.place < length types = omega arith in
    let t = get_or types c.args.place Unit in
    typed_changed (g.L.Look.look c.args.look) c.args.key.now c.args.place types t c.types-types.ensures small within refl c.find_others-others.new.key c.set_type.new.self c.find_others-others.ensures.kept c.set_type.ensures _ _ c.find_others-others.ensures.found (map_none g.L.Look.pick c.find_others-others.result _ c.is_some.ensures c.if-is_some.false) c.find_from-changed.ensures.found

pub returns-clause-kept : goal.returns-clause-kept
returns-clause-kept g m c =
    let types = c.types-types.result.now in
    let small : c.args.place < 16 = omega arith in
    let within : c.args.place < length types = omega arith in
    let t = get_or types c.args.place Unit in
    typed_back (g.L.Look.look c.args.look) c.args.key.now c.args.place types t c.types-types.ensures small within refl c.find_others-others.new.key c.set_type.new.self c.find_others-others.ensures.kept c.set_type.ensures _ _ c.find_from-changed.ensures.kept c.set_type-2.ensures

pub find_from-changed-requires-clause-within : goal.find_from-changed-requires-clause-within
find_from-changed-requires-clause-within g m c =
    let types = c.types-types.result.now in
    let small : c.args.place < 16 = omega arith in
    let within : c.args.place < length types = omega arith in
    let t = get_or types c.args.place Unit in
    typed_within (g.L.Look.look c.args.look) c.args.key.now c.args.place types t c.types-types.ensures small within refl c.find_others-others.new.key c.set_type.new.self c.find_others-others.ensures.kept c.set_type.ensures

pub find_from-changed-requires-clause-dynamic : goal.find_from-changed-requires-clause-dynamic
find_from-changed-requires-clause-dynamic g m c =
    let types = c.types-types.result.now in
    let small : c.args.place < 16 = omega arith in
    let within : c.args.place < length types = omega arith in
    let t = get_or types c.args.place Unit in
    typed_dynamic (g.L.Look.look c.args.look) c.args.key.now c.args.place types t c.types-types.ensures small within refl c.find_others-others.new.key c.set_type.new.self c.find_others-others.ensures.kept c.set_type.ensures

pub find_from-changed-requires-clause-hash : goal.find_from-changed-requires-clause-hash
find_from-changed-requires-clause-hash g m c =
    let types = c.types-types.result.now in
    let small : c.args.place < 16 = omega arith in
    let within : c.args.place < length types = omega arith in
    let t = get_or types c.args.place Unit in
    typed_hash (g.L.Look.look c.args.look) c.args.key.now c.args.place types t c.types-types.ensures small within refl c.find_others-others.new.key c.set_type.new.self c.find_others-others.ensures.kept c.set_type.ensures c.args.hash c.requires.hash

pub returns-then-not-may_match-clause-steps : goal.returns-then-not-may_match-clause-steps
returns-then-not-may_match-clause-steps g m c = leaf_missed (key_types c.args.key.now) c.args.place (g.L.Look.modules c.args.look) _

pub returns-then-place-ge-MOST_CHANGED-clause-steps : goal.returns-then-place-ge-MOST_CHANGED-clause-steps
returns-then-place-ge-MOST_CHANGED-clause-steps g m c = leaf_missed (key_types c.args.key.now) c.args.place (g.L.Look.modules c.args.look) _

pub returns-then-place-types-clause-steps : goal.returns-then-place-types-clause-steps
returns-then-place-types-clause-steps g m c = leaf_missed (key_types c.args.key.now) c.args.place (g.L.Look.modules c.args.look) _

pub returns-then-is_some-clause-steps : goal.returns-then-is_some-clause-steps
returns-then-is_some-clause-steps g m c =
    let types = c.types-types.result.now in
    let small : c.args.place < 16 = omega arith in
    let within : c.args.place < length types = omega arith in
    let t = get_or types c.args.place Unit in
    let own : c.args.place < length (key_types c.args.key.now) = omega (arith, within, ap length c.types-types.ensures) in
    first_less (key_types c.args.key.now) c.args.place (g.L.Look.modules c.args.look) _ _ small own c.find_others-others.ensures.steps

pub returns-clause-steps : goal.returns-clause-steps
returns-clause-steps g m c =
    let types = c.types-types.result.now in
    let small : c.args.place < 16 = omega arith in
    let within : c.args.place < length types = omega arith in
    let t = get_or types c.args.place Unit in
    let own : c.args.place < length (key_types c.args.key.now) = omega (arith, within, ap length c.types-types.ensures) in
    let left = typed_left (g.L.Look.look c.args.look) c.args.key.now c.args.place types t c.types-types.ensures small within refl c.find_others-others.new.key c.set_type.new.self c.find_others-others.ensures.kept c.set_type.ensures in
    both_less (key_types c.args.key.now) (key_types c.args.key.now) c.args.place (g.L.Look.modules c.args.look) _ _ _ small own refl c.find_others-others.ensures.steps (omega (arith, c.find_from-changed.ensures.steps, ap (λ n. n * (g.L.Look.modules c.args.look)) left))
