use Rattle.rhd_loader.proofs.PlanAnswers.{answers_alike}
use Rattle.rhd_loader.proofs.SaidLaws.{says_some, says_one}
use Rattle.rhd_loader.proofs.laws.module_texts_say_one_thing.Goals as goal

pub returns-clause-some : goal.returns-clause-some
returns-clause-some c = says_some

pub returns-clause-one : goal.returns-clause-one
returns-clause-one c = says_one

pub returns-clause-answers : goal.returns-clause-answers
returns-clause-answers c = answers_alike
