use Rattle.std.proofs.Common.{◌+◌, length, ap, sym, ◌∙◌}
use Rattle.rhd_engine.specs.Of.{lists_of}
use Rattle.rhd_dispatch.specs.Asks.{Asked, declared}
use Rattle.rhd_dispatch.specs.Looks.{keys_of}
use Rattle.rhd_dispatch.specs.Walks.{found_in, first_typed}
use Rattle.rhd_dispatch.proofs.Looks.{asked_keys, one_key}
use Rattle.rhd_dispatch.proofs.NativeLooks.{script_declared, native_declared, keys_left, one_left}
use Rattle.rhd_dispatch.proofs.ask.look_up.Goals as goal

pub returns-then-is_script-clause-found : goal.returns-then-is_script-clause-found
unfolding lists_of
returns-then-is_script-clause-found g c =
    let e = lists_of (λ z. (goal.PluginFunc-dyn g z).info z.1) c.args.engine.now in
    let m = c.new-modules.ensures in
    script_declared e c.args.state.now.lib c.args.state.now.imports c.ask.inside.key c.ask.inside.token _ c.ask.invariant (sym c.is_script.ensures ∙ c.if-is_script.true) (c.find.ensures.found ∙ (λ i. found_in (m.state i).lib (m.globals i) (m.state i).imports (m.statics i) c.ask.inside.key))
    ∙ ap (λ (q : Asked). declared e c.args.state.now.lib c.args.state.now.imports q) c.ask.view_is

pub returns-then-is_script-clause-steps : goal.returns-then-is_script-clause-steps
unfolding lists_of
returns-then-is_script-clause-steps g c =
    let e = lists_of (λ z. (goal.PluginFunc-dyn g z).info z.1) c.args.engine.now in
    let m = c.new-modules.ensures in
    asked_keys e c.args.state.now.lib c.args.state.now.imports _ 1 _ _ _ (one_key _ _ _ c.find.ensures.steps) (λ i. length (m.state i).lib + length (m.globals i) + length (m.state i).imports + length (m.statics i)) (ap (λ (q : Asked). keys_of q) (sym c.ask.view_is) ∙ one_left c.ask.inside.key c.ask.inside.token (sym c.is_script.ensures ∙ c.if-is_script.true))

pub returns-clause-found : goal.returns-clause-found
unfolding lists_of
returns-clause-found g c =
    let e = lists_of (λ z. (goal.PluginFunc-dyn g z).info z.1) c.args.engine.now in
    let m = c.new-modules.ensures in
    native_declared e c.args.state.now.lib c.args.state.now.imports c.ask.inside.key c.ask.inside.token _ c.ask.invariant (sym c.is_script.ensures ∙ c.if-is_script.false) (c.find_typed.ensures.found ∙ (λ i. first_typed (found_in (m.state i).lib (m.globals i) (m.state i).imports (m.statics i)) c.ask.inside.key 0))
    ∙ ap (λ (q : Asked). declared e c.args.state.now.lib c.args.state.now.imports q) c.ask.view_is

pub returns-clause-steps : goal.returns-clause-steps
unfolding lists_of
returns-clause-steps g c =
    let e = lists_of (λ z. (goal.PluginFunc-dyn g z).info z.1) c.args.engine.now in
    let m = c.new-modules.ensures in
    asked_keys e c.args.state.now.lib c.args.state.now.imports _ _ _ _ _ c.find_typed.ensures.steps (λ i. length (m.state i).lib + length (m.globals i) + length (m.state i).imports + length (m.statics i)) (ap (λ (q : Asked). keys_of q) (sym c.ask.view_is) ∙ keys_left c.ask.inside.key c.ask.inside.token (sym c.is_script.ensures ∙ c.if-is_script.false))
