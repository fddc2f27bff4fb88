use Rattle.std.proofs.Common.{◌≡◌, ◌+◌, ◌-◌, ◌<◌, ◌∙◌, sym, ap, length, take, take_all, arith, subst}
use Rattle.rhd_value.specs.Tree.{Bytes}
use Rattle.rhd_module.specs.Tree.{ModuleTree}
use Rattle.rhd_call.specs.declared.pick.Layer.TheVariants.{Import}
use Rattle.rhd_dispatch.specs.Searched.{pick_at}
use Rattle.rhd_dispatch.specs.Walks.{in_tree, latest, picked, rooted}
use Rattle.rhd_dispatch.proofs.Passes.{Passed, passed_none, passed_miss, hit_found, hit_steps, end_steps, in_latest, latest_more, map_some, map_none}
use Rattle.rhd_dispatch.proofs.search.find_import.Goals as goal

pub loop-number-init : goal.loop-number-init
loop-number-init c =
    let all : c.args.imports.now ≡ take (length c.args.imports.now) c.args.imports.now = sym (take_all (length c.args.imports.now) c.args.imports.now (omega arith)) in
    subst (λ xs. Passed (in_tree Import c.args.key.now) (latest c.args.imports.now) (latest xs) c.args.steps.now c.args.steps.now) all (passed_none (in_tree Import c.args.key.now) (latest c.args.imports.now) c.args.steps.now)

pub loop-number-preserved : goal.loop-number-preserved
loop-number-preserved c =
    let i = c.loop-number.number - 1 in
    let some : 0 < c.loop-number.number = c.loop-number-test.true in
    let next : c.loop-number.number ≡ i + 1 = omega arith in
    let within : i < length c.args.imports.now = omega arith in
    passed_miss (in_tree Import c.args.key.now) (latest c.args.imports.now) _ (latest (take c.loop-number.number c.args.imports.now)) _ (i, c.index-imports-number.result) _ _ c.loop-number.invariant (latest_more c.args.imports.now i c.loop-number.number c.index-imports-number.result next within c.index-imports-number.is) (sym (c.look_tree-found.ensures.found ∙ ap (λ (m : ModuleTree). pick_at c.args.key.now (rooted (Import i) m)) (c.module-import.ensures ∙ ap (λ (y : Bytes × ModuleTree). y.1) (sym c.index-imports-number.is))) ∙ map_none (λ f. picked f.layer f.func.now f.place.now) c.look_tree-found.result _ c.is_some.ensures c.if-is_some.false) c.look_tree-found.ensures.steps

pub returns-then-is_some-clause-found : goal.returns-then-is_some-clause-found
returns-then-is_some-clause-found c =
    let i = c.loop-number.number - 1 in
    let some : 0 < c.loop-number.number = c.loop-number-test.true in
    let next : c.loop-number.number ≡ i + 1 = omega arith in
    let within : i < length c.args.imports.now = omega arith in
    hit_found (in_tree Import c.args.key.now) (latest c.args.imports.now) _ (latest (take c.loop-number.number c.args.imports.now)) _ (i, c.index-imports-number.result) _ _ c.loop-number.invariant (latest_more c.args.imports.now i c.loop-number.number c.index-imports-number.result next within c.index-imports-number.is) (c.look_tree-found.ensures.found ∙ ap (λ (m : ModuleTree). pick_at c.args.key.now (rooted (Import i) m)) (c.module-import.ensures ∙ ap (λ (y : Bytes × ModuleTree). y.1) (sym c.index-imports-number.is))) (map_some (λ f. picked f.layer f.func.now f.place.now) c.look_tree-found.result _ c.is_some.ensures c.if-is_some.true)

pub returns-then-is_some-clause-steps : goal.returns-then-is_some-clause-steps
returns-then-is_some-clause-steps c =
    let i = c.loop-number.number - 1 in
    let some : 0 < c.loop-number.number = c.loop-number-test.true in
    let next : c.loop-number.number ≡ i + 1 = omega arith in
    let within : i < length c.args.imports.now = omega arith in
    in_latest c.args.imports.now _ _ (hit_steps (in_tree Import c.args.key.now) (latest c.args.imports.now) _ (latest (take c.loop-number.number c.args.imports.now)) _ (i, c.index-imports-number.result) _ _ c.loop-number.invariant (latest_more c.args.imports.now i c.loop-number.number c.index-imports-number.result next within c.index-imports-number.is) c.look_tree-found.ensures.steps)

pub returns-clause-steps : goal.returns-clause-steps
returns-clause-steps c = in_latest c.args.imports.now _ _ (end_steps (in_tree Import c.args.key.now) (latest c.args.imports.now) _ (latest (take c.loop-number.number c.args.imports.now)) _ c.loop-number.invariant)
