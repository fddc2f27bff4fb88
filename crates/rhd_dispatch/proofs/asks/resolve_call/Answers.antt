use Rattle.std.proofs.Common.{length}
use Rattle.std.specs.Prelude.{Some}
use Rattle.std.proofs.lemmas.Result.{IfOk-weaker}
use Rattle.rhd_engine.specs.Of.{lists_of}
use Rattle.rhd_dispatch.proofs.Picks.{script_is_pick, native_is_pick}
use Rattle.rhd_dispatch.proofs.HeldPicks.{pick_is_held}
use Rattle.rhd_dispatch.proofs.asks.resolve_call.Goals as goal

pub returns-in-Some-clause-held : goal.returns-in-Some-clause-held
unfolding lists_of
returns-in-Some-clause-held g c =
    let e = (lists_of (λ z. (goal.PluginFunc-dyn g z).info z.1) c.args.engine.now) in
    pick_is_held (length c.args.engine.now.natives.items.items) e c.args.state.now.lib c.args.state.now.imports c.args.name.now c.args.token c.args.native_only c.args.shape.now (Some c.in-Some.pick) c.args.engine.now.globals_held c.args.engine.now.statics_held c.requires.libs c.requires.imports c.args.engine.now.builtins_held
    (script_is_pick e c.args.state.now.lib c.args.state.now.imports c.args.name.now c.args.token c.args.native_only c.args.shape.now c.in_ok-pick.field-0 c.in-Some.pick c.in_ok-pick.ensures.pick c.in-Some.is)

pub returns-in-None-clause-held : goal.returns-in-None-clause-held
unfolding lists_of
returns-in-None-clause-held g c =
    let e = (lists_of (λ z. (goal.PluginFunc-dyn g z).info z.1) c.args.engine.now) in
    IfOk-weaker c.find_native.result _ _
    (λ last is. pick_is_held (length c.args.engine.now.natives.items.items) e c.args.state.now.lib c.args.state.now.imports c.args.name.now c.args.token c.args.native_only c.args.shape.now last c.args.engine.now.globals_held c.args.engine.now.statics_held c.requires.libs c.requires.imports c.args.engine.now.builtins_held
    (native_is_pick e c.args.state.now.lib c.args.state.now.imports c.args.name.now c.args.token c.args.native_only c.args.shape.now c.in_ok-pick.field-0 last c.in_ok-pick.ensures.pick c.in-None.is is))
    c.find_native.ensures.pick
