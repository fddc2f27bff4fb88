use Rattle.std.proofs.Common.{◌≡◌, ◌+◌, ◌-◌, ◌<◌, ◌∙◌, sym, ap, length, take, take_all, arith, subst}
use Rattle.rhd_module.specs.Tree.{ModuleTree}
use Rattle.rhd_call.specs.declared.pick.Layer.TheVariants.{Library}
use Rattle.rhd_dispatch.specs.Walks.{in_own, latest, picked}
use Rattle.rhd_dispatch.proofs.Passes.{Passed, passed_none, passed_miss, hit_found, hit_steps, end_steps, in_latest, latest_more, map_some, map_none}
use Rattle.rhd_dispatch.proofs.search.find_library.Goals as goal

pub loop-number-init : goal.loop-number-init
loop-number-init c =
    let all : c.args.libs.now ≡ take (length c.args.libs.now) c.args.libs.now = sym (take_all (length c.args.libs.now) c.args.libs.now (omega arith)) in
    subst (λ xs. Passed (in_own Library c.args.key.now) (latest c.args.libs.now) (latest xs) c.args.steps.now c.args.steps.now) all (passed_none (in_own Library c.args.key.now) (latest c.args.libs.now) c.args.steps.now)

pub loop-number-preserved : goal.loop-number-preserved
loop-number-preserved c =
    let i = c.loop-number.number - 1 in
    let some : 0 < c.loop-number.number = c.loop-number-test.true in
    let next : c.loop-number.number ≡ i + 1 = omega arith in
    let within : i < length c.args.libs.now = omega arith in
    passed_miss (in_own Library c.args.key.now) (latest c.args.libs.now) _ (latest (take c.loop-number.number c.args.libs.now)) _ (i, c.index-libs-number.result) _ _ c.loop-number.invariant (latest_more c.args.libs.now i c.loop-number.number c.index-libs-number.result next within c.index-libs-number.is) (sym (c.look_own-found.ensures.found ∙ ap (λ (m : ModuleTree). in_own Library c.args.key.now (i, m)) c.module-library.ensures) ∙ map_none (λ f. picked f.layer f.func.now f.place.now) c.look_own-found.result _ c.is_some.ensures c.if-is_some.false) c.look_own-found.ensures.steps

pub returns-then-is_some-clause-found : goal.returns-then-is_some-clause-found
returns-then-is_some-clause-found c =
    let i = c.loop-number.number - 1 in
    let some : 0 < c.loop-number.number = c.loop-number-test.true in
    let next : c.loop-number.number ≡ i + 1 = omega arith in
    let within : i < length c.args.libs.now = omega arith in
    hit_found (in_own Library c.args.key.now) (latest c.args.libs.now) _ (latest (take c.loop-number.number c.args.libs.now)) _ (i, c.index-libs-number.result) _ _ c.loop-number.invariant (latest_more c.args.libs.now i c.loop-number.number c.index-libs-number.result next within c.index-libs-number.is) (c.look_own-found.ensures.found ∙ ap (λ (m : ModuleTree). in_own Library c.args.key.now (i, m)) c.module-library.ensures) (map_some (λ f. picked f.layer f.func.now f.place.now) c.look_own-found.result _ c.is_some.ensures c.if-is_some.true)

pub returns-then-is_some-clause-steps : goal.returns-then-is_some-clause-steps
returns-then-is_some-clause-steps c =
    let i = c.loop-number.number - 1 in
    let some : 0 < c.loop-number.number = c.loop-number-test.true in
    let next : c.loop-number.number ≡ i + 1 = omega arith in
    let within : i < length c.args.libs.now = omega arith in
    in_latest c.args.libs.now _ _ (hit_steps (in_own Library c.args.key.now) (latest c.args.libs.now) _ (latest (take c.loop-number.number c.args.libs.now)) _ (i, c.index-libs-number.result) _ _ c.loop-number.invariant (latest_more c.args.libs.now i c.loop-number.number c.index-libs-number.result next within c.index-libs-number.is) c.look_own-found.ensures.steps)

pub returns-clause-steps : goal.returns-clause-steps
returns-clause-steps c = in_latest c.args.libs.now _ _ (end_steps (in_own Library c.args.key.now) (latest c.args.libs.now) _ (latest (take c.loop-number.number c.args.libs.now)) _ c.loop-number.invariant)
