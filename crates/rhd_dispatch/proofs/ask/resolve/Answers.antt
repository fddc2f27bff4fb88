use Rattle.std.proofs.Common.{length}
use Rattle.std.proofs.lemmas.Result.{IfOk-weaker}
use Rattle.rhd_engine.specs.Of.{lists_of}
use Rattle.rhd_dispatch.proofs.HeldPicks.{answer_is_held}
use Rattle.rhd_dispatch.proofs.ask.resolve.Goals as goal

pub returns-clause-held : goal.returns-clause-held
unfolding lists_of
returns-clause-held g c =
    let e = lists_of (λ z. (goal.PluginFunc-dyn g z).info z.1) c.args.engine.now in
    IfOk-weaker c.find_answer.result _ _
    (λ pick is. answer_is_held (length c.args.engine.now.natives.items.items) e c.args.state.now.lib c.args.state.now.imports c.args.ask.now pick c.args.engine.now.globals_held c.args.engine.now.statics_held c.requires.libs c.requires.imports c.args.engine.now.builtins_held is)
    c.find_answer.ensures.pick
