use Rattle.rhd_text.proofs.CallLaws.{not_requested}
use Rattle.rhd_text.proofs.calls.requested.Goals as goal

pub returns : goal.returns
returns c = not_requested c.args.command c.in_default.not-Call
