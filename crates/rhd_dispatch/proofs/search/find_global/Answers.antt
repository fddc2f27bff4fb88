use Rattle.std.proofs.Common.{◌∙◌, sym, ap, drop}
use Rattle.std.specs.List.{enumerate_from}
use Rattle.rhd_module.specs.Tree.{ModuleTree}
use Rattle.rhd_call.specs.declared.pick.Layer.TheVariants.{Global}
use Rattle.rhd_dispatch.specs.Walks.{in_own, numbered, picked}
use Rattle.rhd_dispatch.proofs.Passes.{passed_none, passed_miss, hit_found, hit_steps, end_steps, in_numbered, numbered_more, map_some, map_none}
use Rattle.rhd_dispatch.proofs.search.find_global.Goals as goal

pub loop-number-init : goal.loop-number-init
loop-number-init c = passed_none (in_own Global c.args.key.now) (numbered c.args.globals.now) _

pub loop-number-preserved : goal.loop-number-preserved
loop-number-preserved c =
    let i = c.loop-number.number in
    passed_miss (in_own Global c.args.key.now) (numbered c.args.globals.now) _ (enumerate_from i (drop i c.args.globals.now)) _ (i, c.index-globals-number.result) _ _ c.loop-number.invariant (numbered_more c.args.globals.now i c.index-globals-number.result c.loop-number-test.true c.index-globals-number.is) (sym (c.look_own-found.ensures.found ∙ ap (λ (m : ModuleTree). in_own Global c.args.key.now (i, m)) c.module-global.ensures) ∙ map_none (λ f. picked f.layer f.func.now f.place.now) c.look_own-found.result _ c.is_some.ensures c.if-is_some.false) c.look_own-found.ensures.steps

pub returns-then-is_some-clause-found : goal.returns-then-is_some-clause-found
returns-then-is_some-clause-found c =
    let i = c.loop-number.number in
    hit_found (in_own Global c.args.key.now) (numbered c.args.globals.now) _ (enumerate_from i (drop i c.args.globals.now)) _ (i, c.index-globals-number.result) _ _ c.loop-number.invariant (numbered_more c.args.globals.now i c.index-globals-number.result c.loop-number-test.true c.index-globals-number.is) (c.look_own-found.ensures.found ∙ ap (λ (m : ModuleTree). in_own Global c.args.key.now (i, m)) c.module-global.ensures) (map_some (λ f. picked f.layer f.func.now f.place.now) c.look_own-found.result _ c.is_some.ensures c.if-is_some.true)

pub returns-then-is_some-clause-steps : goal.returns-then-is_some-clause-steps
returns-then-is_some-clause-steps c =
    let i = c.loop-number.number in
    in_numbered c.args.globals.now _ _ (hit_steps (in_own Global c.args.key.now) (numbered c.args.globals.now) _ (enumerate_from i (drop i c.args.globals.now)) _ (i, c.index-globals-number.result) _ _ c.loop-number.invariant (numbered_more c.args.globals.now i c.index-globals-number.result c.loop-number-test.true c.index-globals-number.is) c.look_own-found.ensures.steps)

pub returns-clause-steps : goal.returns-clause-steps
returns-clause-steps c = in_numbered c.args.globals.now _ _ (end_steps (in_own Global c.args.key.now) (numbered c.args.globals.now) _ (enumerate_from c.loop-number.number (drop c.loop-number.number c.args.globals.now)) _ c.loop-number.invariant)
