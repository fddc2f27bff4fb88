use Rattle.std.proofs.Common.{◌≡◌, length, ap, sym, ◌∙◌, arith}
use Rattle.std.specs.Prelude.{Some, Option, option_map}
use Rattle.rhd_names.specs.declared.token.OpToken.{OpToken}
use Rattle.rhd_call.specs.declared.pick.Pick.{Pick}
use Rattle.rhd_engine.specs.Of.{lists_of}
use Rattle.rhd_dispatch.specs.Asks.{builtin, builtin_pick}
use Rattle.rhd_dispatch.proofs.Tables.{builtin_two}
use Rattle.rhd_dispatch.proofs.operators.find_builtin.Goals as goal

pub returns-in-Some-get : goal.returns-in-Some-get
unfolding lists_of
returns-in-Some-get g c =
    let e = lists_of (λ z. (goal.PluginFunc-dyn g z).info z.1) c.args.engine.now in
    let two : length c.args.kinds.now ≡ 2 = omega arith in
    ap (λ (p : Pick). Some p) c.builtin_of.ensures ∙ ap (option_map (builtin_pick e c.in-Some.token)) (sym c.in-Some-get.is)
    ∙ builtin_two e c.in-Some.token c.args.kinds.now _ _ c.get.result c.builtins.result.now two c.builtins.ensures c.get.ensures ∙ ap (λ (t : Option OpToken). builtin e t c.args.kinds.now) (sym c.in-Some.is)

pub returns-in-None : goal.returns-in-None
unfolding lists_of
returns-in-None g c =
    let e = lists_of (λ z. (goal.PluginFunc-dyn g z).info z.1) c.args.engine.now in
    let two : length c.args.kinds.now ≡ 2 = omega arith in
    ap (option_map (builtin_pick e c.in-Some.token)) (sym c.in-None.is)
    ∙ builtin_two e c.in-Some.token c.args.kinds.now _ _ c.get.result c.builtins.result.now two c.builtins.ensures c.get.ensures ∙ ap (λ (t : Option OpToken). builtin e t c.args.kinds.now) (sym c.in-Some.is)
