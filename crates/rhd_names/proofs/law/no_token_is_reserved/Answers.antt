use Rattle.rhd_names.proofs.EachToken.{not_reserved}
use Rattle.rhd_names.proofs.law.no_token_is_reserved.Goals as goal

pub returns : goal.returns
returns c = not_reserved
