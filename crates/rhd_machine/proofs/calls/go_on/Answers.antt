use Rattle.std.proofs.Common.{ap, ◌∙◌, Bool}
use Rattle.rhd_engine.specs.Of.{lists_of}
use Rattle.rhd_machine.specs.World.{moment}
use Rattle.rhd_func.specs.Funcs.{native_of}
use Rattle.rhd_func.specs.Infos.{infos_of}
use Rattle.rhd_machine.specs.Entered.{context_if}
use Rattle.rhd_machine.specs.Objects.{objects_of}
use Rattle.rhd_machine.proofs.Stepped.{native_resumed, body_resumed, context_asked}
use Rattle.rhd_machine.proofs.calls.go_on.Goals as goal

pub returns-in-Script : goal.returns-in-Script
unfolding objects_of
returns-in-Script g c = λ begun host.
    body_resumed _ _ c.resume.result c.args.func.now c.in-Script.fn_def c.def.result.now c.in-Script.env c.args.ctx.now c.args.carry c.args.done (moment begun host c.args.bodies.now) c.resume.new.self
    c.in-Script.is c.def.ensures c.resume.ensures.step c.resume.ensures.back

pub returns-in-Pure : goal.returns-in-Pure
unfolding objects_of lists_of infos_of
returns-in-Pure g c = λ begun host.
    native_resumed _ _ c.resume-in-Pure.result c.args.func.now c.args.ctx.now c.args.carry c.args.done c.in-Pure.id _ (moment begun host c.args.bodies.now)
    (ap native_of c.in-Pure.is) (c.context_if-ctx.ensures ∙ ap (λ (b : Bool). context_if b c.args.ctx.now) (c.has_context.ensures ∙ context_asked (λ z. (goal.PluginFunc-dyn g z).info z.1) c.args.func.now _ _ c.natives-natives.ensures)) (rw c.natives-natives.ensures at c.resume-in-Pure.ensures.step) c.resume-in-Pure.ensures.back

pub returns-in-Method : goal.returns-in-Method
unfolding objects_of lists_of infos_of
returns-in-Method g c = λ begun host.
    native_resumed _ _ c.resume-in-Method.result c.args.func.now c.args.ctx.now c.args.carry c.args.done c.in-Method.id _ (moment begun host c.args.bodies.now)
    (ap native_of c.in-Method.is) (c.context_if-ctx-in-Method.ensures ∙ ap (λ (b : Bool). context_if b c.args.ctx.now) (c.has_context-in-Method.ensures ∙ context_asked (λ z. (goal.PluginFunc-dyn g z).info z.1) c.args.func.now _ _ c.natives-natives.ensures)) (rw c.natives-natives.ensures at c.resume-in-Method.ensures.step) c.resume-in-Method.ensures.back

pub returns-in-Plugin : goal.returns-in-Plugin
unfolding objects_of lists_of infos_of
returns-in-Plugin g c = λ begun host.
    native_resumed _ _ c.resume-in-Plugin.result c.args.func.now c.args.ctx.now c.args.carry c.args.done c.in-Plugin.id _ (moment begun host c.args.bodies.now)
    (ap native_of c.in-Plugin.is) (c.context_if-ctx-in-Plugin.ensures ∙ ap (λ (b : Bool). context_if b c.args.ctx.now) (c.has_context-in-Plugin.ensures ∙ context_asked (λ z. (goal.PluginFunc-dyn g z).info z.1) c.args.func.now _ _ c.natives-natives.ensures)) (rw c.natives-natives.ensures at c.resume-in-Plugin.ensures.step) c.resume-in-Plugin.ensures.back

pub returns-in-StaticPlugin : goal.returns-in-StaticPlugin
unfolding objects_of lists_of infos_of
returns-in-StaticPlugin g c = λ begun host.
    native_resumed _ _ c.resume-in-StaticPlugin.result c.args.func.now c.args.ctx.now c.args.carry c.args.done c.in-StaticPlugin.id _ (moment begun host c.args.bodies.now)
    (ap native_of c.in-StaticPlugin.is) (c.context_if-ctx-in-StaticPlugin.ensures ∙ ap (λ (b : Bool). context_if b c.args.ctx.now) (c.has_context-in-StaticPlugin.ensures ∙ context_asked (λ z. (goal.PluginFunc-dyn g z).info z.1) c.args.func.now _ _ c.natives-natives.ensures)) (rw c.natives-natives.ensures at c.resume-in-StaticPlugin.ensures.step) c.resume-in-StaticPlugin.ensures.back
