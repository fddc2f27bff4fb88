use Rattle.std.proofs.Common.{◌≡◌, ◌+◌, ◌-◌, ◌<◌, ◌∙◌, refl, sym, ap, length, take, true, false, arith}
use Rattle.std.specs.Prelude.{Some}
use Rattle.rhd_value.specs.Same.{text_eq}
use Rattle.rhd_call.specs.declared.pick.Layer.TheVariants.{Import}
use Rattle.rhd_dispatch.specs.Walks.{named_at, latest, rooted}
use Rattle.rhd_dispatch.proofs.Passes.{first_miss, first_hit, latest_more}
use Rattle.rhd_dispatch.proofs.Roots.{named_hit, named_miss}
use Rattle.rhd_dispatch.proofs.root.import_root.Goals as goal

pub returns-then-eq : goal.returns-then-eq
returns-then-eq c =
    let i = c.loop-number.number - 1 in
    let some : 0 < c.loop-number.number = c.loop-number-test.true in
    let next : c.loop-number.number ≡ i + 1 = omega arith in
    let within : i < length c.args.imports.now = omega arith in
    let own : text_eq c.args.name.now c.index-imports-number.result.0 ≡ true = sym c.if-eq.ensures in
    let at : rooted c.root_at.result.layer c.root_at.result.place.now ≡ rooted (Import i) c.index-imports-number.result.1 = c.root_at.ensures ∙ ap (rooted (Import i)) c.module.ensures in
    first_hit (named_at Import c.args.name.now) (latest (take c.loop-number.number c.args.imports.now)) _ (i, c.index-imports-number.result) (Some (rooted c.root_at.result.layer c.root_at.result.place.now))
    (latest_more c.args.imports.now i c.loop-number.number c.index-imports-number.result next within c.index-imports-number.is) (named_hit Import c.args.name.now (i, c.index-imports-number.result) _ own at) refl
    ∙ c.loop-number.invariant

pub loop-number-preserved : goal.loop-number-preserved
loop-number-preserved c =
    let i = c.loop-number.number - 1 in
    let some : 0 < c.loop-number.number = c.loop-number-test.true in
    let next : c.loop-number.number ≡ i + 1 = omega arith in
    let within : i < length c.args.imports.now = omega arith in
    let own : text_eq c.args.name.now c.index-imports-number.result.0 ≡ false = sym c.if-eq.ensures in
    sym (first_miss (named_at Import c.args.name.now) (latest (take c.loop-number.number c.args.imports.now)) _ (i, c.index-imports-number.result)
    (latest_more c.args.imports.now i c.loop-number.number c.index-imports-number.result next within c.index-imports-number.is) (named_miss Import c.args.name.now (i, c.index-imports-number.result) own))
    ∙ c.loop-number.invariant
