use Rattle.rhd_text.proofs.SessionLaws.{read_or_bad, one_number}
use Rattle.rhd_text.proofs.laws.every_text_is_read_or_has_a_first_bad_line.Goals as goal

pub returns-clause-either : goal.returns-clause-either
returns-clause-either c = read_or_bad

pub returns-clause-one : goal.returns-clause-one
returns-clause-one c = one_number
