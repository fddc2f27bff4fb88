use Rattle.std.proofs.Common.{rules}
use Rattle.rhd_func.proofs.Held.{resume_held}
use Rattle.rhd_func.proofs.natives.Natives.resume.Goals as goal

pub returns-clause-step : goal.returns-clause-step
returns-clause-step g c = search (rules, resume_held)
