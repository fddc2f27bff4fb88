use Rattle.std.proofs.Common.{sym}
use Rattle.rhd_call.specs.declared.pick.Layer.TheVariants.{Library}
use Rattle.rhd_dispatch.proofs.Lacking.{latest_lack}
use Rattle.rhd_dispatch.proofs.search.search_libraries.Goals as goal

pub returns-then-not-may_have-clause-found : goal.returns-then-not-may_have-clause-found
returns-then-not-may_have-clause-found c = sym (latest_lack c.args.key.now Library c.args.libs.now (c.may_have.ensures c.if-not-may_have.true))
