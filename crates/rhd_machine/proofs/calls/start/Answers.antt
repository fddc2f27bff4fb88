use Rattle.std.proofs.Common.{refl, ap}
use Rattle.rhd_call.specs.Seen.{seen}
use Rattle.rhd_engine.specs.Of.{lists_of}
use Rattle.rhd_machine.specs.Plans.{plan_of}
use Rattle.rhd_machine.specs.World.{moment}
use Rattle.rhd_func.specs.Funcs.{native_of}
use Rattle.rhd_machine.specs.Entered.{context}
use Rattle.rhd_machine.specs.Objects.{objects_of}
use Rattle.rhd_machine.proofs.Stepped.{native_started, body_started}
use Rattle.rhd_machine.proofs.calls.start.Goals as goal

pub returns-in-Script : goal.returns-in-Script
unfolding objects_of
returns-in-Script g c = λ begun host.
    let ctx = context c.args.state.now (seen c.args.node.now).level (plan_of (seen c.args.node.now).call) c.args.pick.now in
    body_started _ _ c.start_script.result c.args.pick.now.func c.in-Script.fn_def c.def.result.now c.in-Script.env ctx (record { first = c.args.received.first; args = c.args.received.args }) (moment begun host c.args.bodies.now) c.start_script.new.bodies
    c.in-Script.is c.def.ensures c.start_script.ensures.step c.start_script.ensures.back

pub returns-in-Pure : goal.returns-in-Pure
unfolding objects_of lists_of
returns-in-Pure g c = λ begun host.
    let ctx = context c.args.state.now (seen c.args.node.now).level (plan_of (seen c.args.node.now).call) c.args.pick.now in
    native_started _ _ c.start_native.result c.args.pick.now.func ctx (record { first = c.args.received.first; args = c.args.received.args }) c.in-Pure.id _ (moment begun host c.args.bodies.now)
    (ap native_of c.in-Pure.is) refl (rw c.natives.ensures at c.start_native.ensures.step) c.start_native.ensures.back

pub returns-in-Method : goal.returns-in-Method
unfolding objects_of lists_of
returns-in-Method g c = λ begun host.
    let ctx = context c.args.state.now (seen c.args.node.now).level (plan_of (seen c.args.node.now).call) c.args.pick.now in
    native_started _ _ c.start_native-in-Method.result c.args.pick.now.func ctx (record { first = c.args.received.first; args = c.args.received.args }) c.in-Method.id _ (moment begun host c.args.bodies.now)
    (ap native_of c.in-Method.is) refl (rw c.natives-in-Method.ensures at c.start_native-in-Method.ensures.step) c.start_native-in-Method.ensures.back

pub returns-in-Plugin : goal.returns-in-Plugin
unfolding objects_of lists_of
returns-in-Plugin g c = λ begun host.
    let ctx = context c.args.state.now (seen c.args.node.now).level (plan_of (seen c.args.node.now).call) c.args.pick.now in
    native_started _ _ c.start_native-in-Plugin.result c.args.pick.now.func ctx (record { first = c.args.received.first; args = c.args.received.args }) c.in-Plugin.id _ (moment begun host c.args.bodies.now)
    (ap native_of c.in-Plugin.is) refl (rw c.natives-in-Plugin.ensures at c.start_native-in-Plugin.ensures.step) c.start_native-in-Plugin.ensures.back

pub returns-in-StaticPlugin : goal.returns-in-StaticPlugin
unfolding objects_of lists_of
returns-in-StaticPlugin g c = λ begun host.
    let ctx = context c.args.state.now (seen c.args.node.now).level (plan_of (seen c.args.node.now).call) c.args.pick.now in
    native_started _ _ c.start_native-in-StaticPlugin.result c.args.pick.now.func ctx (record { first = c.args.received.first; args = c.args.received.args }) c.in-StaticPlugin.id _ (moment begun host c.args.bodies.now)
    (ap native_of c.in-StaticPlugin.is) refl (rw c.natives-in-StaticPlugin.ensures at c.start_native-in-StaticPlugin.ensures.step) c.start_native-in-StaticPlugin.ensures.back
