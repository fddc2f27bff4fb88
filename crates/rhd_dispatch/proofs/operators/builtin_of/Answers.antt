use Rattle.std.specs.Prelude.{not, None}
use Rattle.rhd_func.specs.declared.func.RhaiFunc.TheVariants as funcs
use Rattle.rhd_call.specs.declared.pick.Layer.TheVariants.{Builtin}
use Rattle.rhd_engine.specs.Of.{lists_of}
use Rattle.rhd_dispatch.proofs.Tables.{says_same}
use Rattle.rhd_dispatch.proofs.operators.builtin_of.Goals as goal

pub returns : goal.returns
unfolding lists_of
returns g c =
    let context = says_same (λ z. (goal.PluginFunc-dyn g z).info z.1) c.natives.result.now c.args.engine.now.natives c.args.id (λ n. n.has_context) c.native_has_context-has_context.result c.natives.ensures c.native_has_context-has_context.ensures in
    let volatile = says_same (λ z. (goal.PluginFunc-dyn g z).info z.1) c.natives-2.result.now c.args.engine.now.natives c.args.id (λ n. n.is_volatile) c.native_is_volatile-is_volatile.result c.natives-2.ensures c.native_is_volatile-is_volatile.ensures in
    (λ i. record { layer = Builtin; func = funcs.Method c.args.id (context i) (not (c.is_op_assignment.ensures i)) (volatile i); source = None })
