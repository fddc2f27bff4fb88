use Rattle.rhd_hash.proofs.Mixing.{after_append, answer_fresh}
use Rattle.rhd_hash.proofs.law.a_mixer_answers_for_its_bytes.Goals as goal

pub returns-clause-pieces : goal.returns-clause-pieces
returns-clause-pieces c = after_append

pub returns-clause-answers : goal.returns-clause-answers
returns-clause-answers c = answer_fresh
