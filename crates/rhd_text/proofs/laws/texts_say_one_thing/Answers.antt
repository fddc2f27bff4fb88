use Rattle.rhd_text.proofs.SessionLaws.{one_thing, no_bad_line}
use Rattle.rhd_text.proofs.laws.texts_say_one_thing.Goals as goal

pub returns-clause-one : goal.returns-clause-one
returns-clause-one c = one_thing

pub returns-clause-not_bad : goal.returns-clause-not_bad
returns-clause-not_bad c = no_bad_line
