use Rattle.rhd_laws.proofs.NodeEnds.{runs_end, kind_exactly, size_exactly, refused_exactly}
use Rattle.rhd_laws.proofs.calls.a_value_is_refused_for_its_kind_or_size.Goals as goal

pub returns-clause-kind : goal.returns-clause-kind
returns-clause-kind g c = λ r wanted got pos. kind_exactly _ _ wanted got pos (runs_end _ _ r.runs)

pub returns-clause-size : goal.returns-clause-size
returns-clause-size g c = λ r what pos. size_exactly _ _ what pos (runs_end _ _ r.runs)

pub returns-clause-refused : goal.returns-clause-refused
returns-clause-refused g c = λ r value. refused_exactly _ _ value (runs_end _ _ r.runs)
