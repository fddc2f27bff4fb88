use Rattle.std.proofs.Common.{◌≡◌, ◌≤◌, ◌+◌, length, take}
use Rattle.rhd_session.specs.Of.{natives_of, modules_of, moment_of, loader_of, state_of, session_objects}
use Rattle.rhd_session.specs.Answered.{Answered}
use Rattle.rhd_session.proofs.session.Session.run.Given as goal

abbrev pub invariant-loop-command : goal.invariant-loop-command
invariant-loop-command g l = record {
  count : length (modules_of l.self.core) ≤ length (modules_of l.fn.self.core) + l.command-index;
  natives : natives_of l.self.core ≡ natives_of l.fn.self.core;
  loader : loader_of l.self ≡ loader_of l.fn.self;
  answered : Answered (session_objects (λ z. (goal.PluginFunc-dyn g z).allows_call z.1) (λ z. (goal.PluginFunc-dyn g z).allows_resume z.1) g.B.Bodies.allows_start g.B.Bodies.allows_next g.H.Host.allows_missing g.L.Loader.allows_load l.fn.self) (state_of (λ z. (goal.PluginFunc-dyn g z).info z.1) g.F.Files.texts g.F.Files.faults l.fn.self) (moment_of l.fn.self.core l.fn.host l.fn.bodies) (take l.command-index l.commands) l.replies.items (state_of (λ z. (goal.PluginFunc-dyn g z).info z.1) g.F.Files.texts g.F.Files.faults l.self) (moment_of l.self.core l.host l.bodies);
}
