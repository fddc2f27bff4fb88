use Rattle.std.proofs.Common.{sym}
use Rattle.rhd_call.specs.declared.pick.Layer.TheVariants.{Global}
use Rattle.rhd_dispatch.proofs.Lacking.{numbered_lack}
use Rattle.rhd_dispatch.proofs.search.search_globals.Goals as goal

pub returns-then-not-may_have-clause-found : goal.returns-then-not-may_have-clause-found
returns-then-not-may_have-clause-found c = sym (numbered_lack c.args.key.now Global 0 c.args.globals.now (c.may_have.ensures c.if-not-may_have.true))
