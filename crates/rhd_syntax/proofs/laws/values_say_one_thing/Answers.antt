use Rattle.rhd_syntax.proofs.WholeLaws.{one_value}
use Rattle.rhd_syntax.proofs.laws.values_say_one_thing.Goals as goal

pub returns : goal.returns
returns c = one_value
