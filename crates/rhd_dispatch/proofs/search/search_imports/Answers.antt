use Rattle.std.proofs.Common.{sym}
use Rattle.rhd_call.specs.declared.pick.Layer.TheVariants.{Import}
use Rattle.rhd_dispatch.proofs.Lacking.{latest_trees}
use Rattle.rhd_dispatch.proofs.search.search_imports.Goals as goal

pub returns-then-not-may_have-clause-found : goal.returns-then-not-may_have-clause-found
returns-then-not-may_have-clause-found c = sym (latest_trees c.args.key.now Import c.args.imports.now (c.may_have.ensures c.if-not-may_have.true))
