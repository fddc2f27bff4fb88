use Rattle.std.proofs.Common.{refl}
use Rattle.rhd_session.proofs.Declared.{tag_goes}
use Rattle.rhd_session.proofs.session_core.SessionCore.set_tag.Goals as goal

pub returns-clause-goes : goal.returns-clause-goes
returns-clause-goes g c = tag_goes _ _ _ c.args.tag refl
