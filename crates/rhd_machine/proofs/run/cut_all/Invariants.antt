use Rattle.std.proofs.Common.{List}
use Rattle.std.specs.Prelude.{vec_len}
use Rattle.rhd_func.specs.declared.request.CallRequest.{CallRequest}
use Rattle.rhd_module.specs.Tree.{ModuleTree}
use Rattle.rhd_engine.specs.Engine.{Frame}
use Rattle.rhd_machine.specs.World.{Moment}
use Rattle.rhd_machine.specs.Setting.{setting_of}
use Rattle.rhd_machine.specs.Waits.{CuttingIn}
use Rattle.rhd_machine.proofs.run.cut_all.Given as goal

abbrev pub invariant-loop-frame : goal.invariant-loop-frame
invariant-loop-frame g l = (modules : List ModuleTree) (base : Frame) (call : CallRequest) (before after : Moment g.row.H.Denot g.row.B.Denot) →
    CuttingIn (setting_of (λ z. (goal.PluginFunc-dyn g z).allows_call z.1) (λ z. (goal.PluginFunc-dyn g z).allows_resume z.1) g.B.Bodies.allows_start g.B.Bodies.allows_next g.H.Host.allows_missing (λ z. (goal.PluginFunc-dyn g z).info z.1) l._engine modules l._envs.items base) l.fn.stack.items call before l.fn.node after →
    CuttingIn (setting_of (λ z. (goal.PluginFunc-dyn g z).allows_call z.1) (λ z. (goal.PluginFunc-dyn g z).allows_resume z.1) g.B.Bodies.allows_start g.B.Bodies.allows_next g.H.Host.allows_missing (λ z. (goal.PluginFunc-dyn g z).info z.1) l._engine modules l._envs.items base) l.stack.items call before l.node after

abbrev pub decreases-loop-frame : goal.decreases-loop-frame
decreases-loop-frame g l = vec_len l.stack
