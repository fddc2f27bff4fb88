use Rattle.std.proofs.Common.{ap, ◌∙◌}
use Rattle.rhd_hash.specs.Keys.{is_script_key}
use Rattle.rhd_dispatch.specs.Picks.{AskedBelow, script_below, native_below}
use Rattle.rhd_dispatch.specs.Walks.{picked, rooted}
use Rattle.rhd_dispatch.proofs.Passes.{map_some, map_none}
use Rattle.rhd_dispatch.proofs.Roots.{below_script, below_native}
use Rattle.rhd_dispatch.proofs.qualified.find_in.Goals as goal

pub look_for_script-script-requires : goal.look_for_script-script-requires
look_for_script-script-requires c = ap is_script_key c.asks.invariant.0

pub returns-then-is_some-clause-found : goal.returns-then-is_some-clause-found
returns-then-is_some-clause-found c =
    below_script c.args.asks.now (rooted c.args.root.layer c.args.root.place.now) c.asks.inside.script _ (c.asks.invariant.0 ∙ ap (λ (q : AskedBelow). script_below q) c.asks.view_is) c.look_for_script-script.ensures.found
    (map_some (λ f. picked f.layer f.func.now f.place.now) c.look_for_script-script.result _ c.is_some.ensures c.if-is_some.true)

pub returns-clause-found : goal.returns-clause-found
returns-clause-found c =
    below_native c.args.asks.now (rooted c.args.root.layer c.args.root.place.now) c.asks.inside.script c.asks.inside.native _ _ (c.asks.invariant.0 ∙ ap (λ (q : AskedBelow). script_below q) c.asks.view_is)
    (c.asks.invariant.1 ∙ ap (λ (q : AskedBelow). native_below q) c.asks.view_is) c.look_for_script-script.ensures.found (map_none (λ f. picked f.layer f.func.now f.place.now) c.look_for_script-script.result _ c.is_some.ensures c.if-is_some.false) c.find_typed.ensures.found
