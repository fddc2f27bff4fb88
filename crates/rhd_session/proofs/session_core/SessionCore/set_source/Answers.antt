use Rattle.std.proofs.Common.{refl}
use Rattle.rhd_session.proofs.Declared.{source_goes}
use Rattle.rhd_session.proofs.session_core.SessionCore.set_source.Goals as goal

pub returns-in_default-clause-goes : goal.returns-in_default-clause-goes
returns-in_default-clause-goes g c = source_goes _ _ _ c.args.source (rw c.in_default.is refl)

pub returns-clause-goes : goal.returns-clause-goes
returns-clause-goes g c = source_goes _ _ _ c.args.source (rw (c.in-Some.is, c.in_ok-new.ensures) refl)
