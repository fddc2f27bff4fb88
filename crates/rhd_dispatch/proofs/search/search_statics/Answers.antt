use Rattle.std.proofs.Common.{sym}
use Rattle.rhd_call.specs.declared.pick.Layer.TheVariants.{Static}
use Rattle.rhd_dispatch.proofs.Lacking.{numbered_trees}
use Rattle.rhd_dispatch.proofs.search.search_statics.Goals as goal

pub returns-then-not-may_have-clause-found : goal.returns-then-not-may_have-clause-found
returns-then-not-may_have-clause-found c = sym (numbered_trees c.args.key.now Static 0 c.args.statics.now (c.may_have.ensures c.if-not-may_have.true))
