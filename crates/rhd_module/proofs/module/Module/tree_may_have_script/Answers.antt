use Rattle.rhd_module.specs.contracts.module.Module.{the_view}
use Rattle.rhd_module.proofs.Covered.{index_of, tree_no_script}
use Rattle.rhd_module.proofs.module.Module.tree_may_have_script.Goals as goal

pub returns : goal.returns
returns c = λ none.
    let is = index_of c.self.inside.index.value c.deref.result.now (the_view c.self.inside) c.args.self.now c.self.invariant.1 c.self.view_is c.deref.ensures c.requires in
    tree_no_script c.deref.result.now c.args.self.now is (c.may_have_script.ensures none)
