use Rattle.rhd_kit.proofs.AskLaws.{asks_as_told}
use Rattle.rhd_kit.proofs.laws.a_native_asks_as_often_as_it_is_told.Goals as goal

pub returns : goal.returns
returns c = asks_as_told
