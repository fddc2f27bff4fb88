use Rattle.std.proofs.Common.{refl}
use Rattle.rhd_laws.proofs.Roots.{rootless_exactly}
use Rattle.rhd_laws.proofs.NodeEnds.{runs_end, rootless_shown}
use Rattle.rhd_laws.proofs.NodeEnds.{rootless_exactly as ends_exactly}
use Rattle.rhd_laws.proofs.calls.a_path_that_begins_at_no_module_ends_the_call.Goals as goal

pub returns-clause-root : goal.returns-clause-root
returns-clause-root g c = λ e f path. rootless_exactly e f path

pub returns-clause-number : goal.returns-clause-number
returns-clause-number g c = λ text pos. refl

pub returns-clause-ends : goal.returns-clause-ends
returns-clause-ends g c = λ r text pos begun. ends_exactly _ _ text pos (runs_end _ _ r.runs) begun

pub returns-clause-shown : goal.returns-clause-shown
returns-clause-shown g c = λ r path begun l search root. rootless_shown _ _ path (runs_end _ _ r.runs) begun l search root
