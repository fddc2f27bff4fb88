use Rattle.std.proofs.Common.{◌≡◌, ap}
use Rattle.std.proofs.lemmas.Result.{IfOk-weaker}
use Rattle.rhd_func.specs.Infos.{infos_of}
use Rattle.rhd_engine.specs.Of.{lists_of}
use Rattle.rhd_machine.specs.Ends.{first_at_end}
use Rattle.rhd_machine.specs.Plans.{plan_of}
use Rattle.rhd_machine.proofs.Finished.{first_is}
use Rattle.rhd_machine.proofs.ends.first_at_end.Goals as goal

pub returns : goal.returns
unfolding lists_of
returns g c =
    let n = ap (infos_of (λ z. (goal.PluginFunc-dyn g z).info z.1)) c.natives.ensures in
    IfOk-weaker c.first_after.result _ (λ first. first ≡ first_at_end (lists_of (λ z. (goal.PluginFunc-dyn g z).info z.1) c.args.engine.now) (plan_of c.args.call.now) c.args.pick.now c.args.back)
    (λ first is. first_is (lists_of (λ z. (goal.PluginFunc-dyn g z).info z.1) c.args.engine.now) (infos_of (λ z. (goal.PluginFunc-dyn g z).info z.1) c.natives.result.now) c.args.call.now c.args.pick.now c.args.back first n is)
    c.first_after.ensures
