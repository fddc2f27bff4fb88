use Rattle.std.proofs.Common.{◌+◌, [], refl, ◌∙◌}
use Rattle.std.proofs.lemmas.Result.{IfOk-weaker}
use Rattle.rhd_call.specs.Seen.{seen}
use Rattle.rhd_engine.specs.Of.{lists_of}
use Rattle.rhd_func.specs.Infos.{infos_of}
use Rattle.rhd_machine.specs.Plans.{plan_of}
use Rattle.rhd_machine.specs.Entered.{context}
use Rattle.rhd_machine.specs.Received.{received, convention_of}
use Rattle.rhd_machine.specs.Runs.{none_yet, received_by}
use Rattle.rhd_machine.specs.Waits.{in_progress}
use Rattle.rhd_machine.proofs.Stack.{settled}
use Rattle.rhd_machine.proofs.Stepped.{starts_on}
use Rattle.rhd_machine.proofs.calls.begin_picked.Goals as goal

pub returns-in-Ok : goal.returns-in-Ok
unfolding lists_of
returns-in-Ok g c = λ modules environs begun host begins within decided.
    let plan = plan_of (seen c.args.node.now).call in
    let ctx = context c.args.state.now (seen c.args.node.now).level plan c.args.pick in
    let first = c.in_ok-received.ensures.first ∙ (λ i. (received (convention_of (infos_of (λ z. (goal.PluginFunc-dyn g z).info z.1) (c.natives.ensures i)) c.args.pick.func) plan.shape).first) in
    let args = c.in_ok-received.ensures.args ∙ (λ i. (received (convention_of (infos_of (λ z. (goal.PluginFunc-dyn g z).info z.1) (c.natives.ensures i)) c.args.pick.func) plan.shape).args) in
    let starts = starts_on _ _ c.args.pick.func ctx (record { first = c.in_ok-received.received.first; args = c.in_ok-received.received.args }) (received_by (lists_of (λ z. (goal.PluginFunc-dyn g z).info z.1) c.args.engine.now) plan c.args.pick) _ _ c.in-Ok.step first args (c.in-Ok.ensures (begun + 1) host) in
    IfOk-weaker c.settle.result _ _ (λ asking s. settled _ _ within decided starts none_yet s) (c.settle.ensures (in_progress (seen c.args.node.now).call (seen c.args.node.now).level c.args.pick [] []) begins refl)
