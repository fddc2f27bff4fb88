use Rattle.std.proofs.Common.{◌≤◌, ◌+◌, ◌*◌, ◌-◌, List}
use Rattle.std.specs.Prelude.{vec_len}
use Rattle.rhd_func.specs.declared.request.CallRequest.{CallRequest}
use Rattle.rhd_module.specs.Tree.{ModuleTree}
use Rattle.rhd_machine.specs.World.{Moment, moment}
use Rattle.rhd_machine.specs.Setting.{setting_of}
use Rattle.rhd_machine.specs.Waits.{ComesIn, GoingIn, IsAbove, weight}
use Rattle.rhd_machine.proofs.run.run_stack.Given as goal

abbrev pub invariant-loop-hand : goal.invariant-loop-hand
invariant-loop-hand g l = record {
  going : (modules : List ModuleTree) (call : CallRequest) (before : Moment g.row.H.Denot g.row.B.Denot) →
      ComesIn (setting_of (λ z. (goal.PluginFunc-dyn g z).allows_call z.1) (λ z. (goal.PluginFunc-dyn g z).allows_resume z.1) g.B.Bodies.allows_start g.B.Bodies.allows_next g.H.Host.allows_missing (λ z. (goal.PluginFunc-dyn g z).info z.1) l.engine modules l.envs.items l.fn.state) 1 call l.fn.outcome before (moment l.fn.begun l.fn.host l.fn.bodies) →
      GoingIn (setting_of (λ z. (goal.PluginFunc-dyn g z).allows_call z.1) (λ z. (goal.PluginFunc-dyn g z).allows_resume z.1) g.B.Bodies.allows_start g.B.Bodies.allows_next g.H.Host.allows_missing (λ z. (goal.PluginFunc-dyn g z).info z.1) l.engine modules l.envs.items l.fn.state) l.stack.items call before l.hand l.state (moment l.begun l.host l.bodies);
  above : IsAbove l.fn.state l.state;
  within : l.begun ≤ l.engine.limits.budget;
  rises : l.fn.begun ≤ l.begun;
}

abbrev pub decreases-loop-hand : goal.decreases-loop-hand
decreases-loop-hand g l = 2 * (l.engine.limits.budget - l.begun) + vec_len l.stack + weight l.hand
