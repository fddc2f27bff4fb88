use Rattle.rhd_algebra.proofs.SameTrees.{keeps_own, keeps_qualified}
use Rattle.rhd_algebra.proofs.law.registering_keeps_what_is_found.Goals as goal

pub returns-clause-own : goal.returns-clause-own
returns-clause-own c = keeps_own

pub returns-clause-qualified : goal.returns-clause-qualified
returns-clause-qualified c = λ m key has. keeps_qualified m key has
