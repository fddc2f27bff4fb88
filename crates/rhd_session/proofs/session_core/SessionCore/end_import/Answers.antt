use Rattle.std.proofs.Common.{ap}
use Rattle.rhd_engine.specs.Engine.{Imports}
use Rattle.rhd_session.proofs.Imported.{frame_last, popped_last}
use Rattle.rhd_session.proofs.session_core.SessionCore.end_import.Goals as goal

pub invariant_of-self-clause-state_held : goal.invariant_of-self-clause-state_held
invariant_of-self-clause-state_held g c = rw c.set_last.ensures (frame_last _ c.args.self.now.state c.in-Ok.module (rw c.in-Ok.is at c.requires.held) c.args.self.now.state_held)

pub returns-in-Err-clause-ends : goal.returns-in-Err-clause-ends
returns-in-Err-clause-ends g c = rw c.in-Err.is (c.refusal_of.ensures, ap (λ (es : Imports). record c.args.self.now.state { imports = es }) (popped_last _ _ _ c.pop.ensures))
