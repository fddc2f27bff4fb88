use Rattle.std.proofs.Common.{sym}
use Rattle.rhd_call.specs.declared.pick.Layer.TheVariants.{Static}
use Rattle.rhd_dispatch.proofs.Lacking.{tree_none}
use Rattle.rhd_dispatch.proofs.search.look_marked.Goals as goal

pub returns-then-not-may_have-clause-found : goal.returns-then-not-may_have-clause-found
returns-then-not-may_have-clause-found c = sym (tree_none c.args.key.now Static c.args.layer c.args.place.now (c.may_have.ensures c.if-not-may_have.true))
