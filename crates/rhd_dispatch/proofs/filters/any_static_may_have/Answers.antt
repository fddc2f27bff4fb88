use Rattle.rhd_hash.specs.Keys.{key_name, key_params}
use Rattle.rhd_dispatch.proofs.Lacking.{trees_lack}
use Rattle.rhd_dispatch.proofs.filters.any_static_may_have.Goals as goal

pub returns-then-not-may_have_dynamic-clause-none : goal.returns-then-not-may_have_dynamic-clause-none
returns-then-not-may_have_dynamic-clause-none c = λ _. trees_lack (key_name c.args.key.now) (key_params c.args.key.now) c.args.statics.now (c.may_have_dynamic.ensures.lack c.if-not-may_have_dynamic.true)
