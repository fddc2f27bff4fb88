use Rattle.rhd_kit.proofs.AskLaws.{asks_in_order}
use Rattle.rhd_kit.proofs.laws.a_body_asks_its_calls_in_order.Goals as goal

pub returns : goal.returns
returns c = asks_in_order
