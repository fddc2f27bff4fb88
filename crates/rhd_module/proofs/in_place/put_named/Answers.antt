use Rattle.std.proofs.Common.{ap, ◌∙◌, Global}
use Rattle.rhd_module.specs.Tree.{subs_of}
use Rattle.rhd_module.proofs.JoinParts.{subs_put_all}
use Rattle.rhd_module.proofs.in_place.put_named.Goals as goal

pub returns-in-Ok-clause-subs : goal.returns-in-Ok-clause-subs
returns-in-Ok-clause-subs c = ap subs_of c.in-Ok.ensures.put ∙ subs_put_all {Z = Global} c.args.named.subs.items c.args.subs.now.entries
