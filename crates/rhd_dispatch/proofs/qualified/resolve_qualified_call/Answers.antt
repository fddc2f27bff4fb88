use Rattle.std.proofs.Common.{length, ◌∙◌}
use Rattle.std.proofs.lemmas.Result.{IfOk-weaker}
use Rattle.rhd_engine.specs.Of.{lists_of}
use Rattle.rhd_dispatch.proofs.HeldPicks.{qualified_is_held}
use Rattle.rhd_dispatch.proofs.Roots.{call_asks}
use Rattle.rhd_dispatch.proofs.qualified.resolve_qualified_call.Goals as goal

pub returns-clause-held : goal.returns-clause-held
unfolding lists_of
returns-clause-held g c =
    let e = lists_of (λ z. (goal.PluginFunc-dyn g z).info z.1) c.args.engine.now in
    IfOk-weaker c.pick_found.result _ _
    (λ pick is. qualified_is_held (length c.args.engine.now.natives.items.items) e c.args.state.now.imports c.args.path.now c.args.name.now c.args.shape.now pick c.args.engine.now.statics_held c.requires
    (call_asks e c.args.state.now.imports c.args.path.now _ _ c.args.name.now c.args.shape.now c.in_ok-asks.asks c.in_ok-kinds.kinds _ pick c.as_slice.ensures c.as_slice-3.ensures c.as_slice-2.ensures c.in_ok-asks.ensures c.in_ok-kinds.ensures (is ∙ c.resolve_qualified-found.ensures.found)))
    c.pick_found.ensures
