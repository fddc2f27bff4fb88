use Rattle.rhd_module.specs.contracts.module.Module.{the_view}
use Rattle.rhd_module.proofs.Covered.{index_of, tree_covered}
use Rattle.rhd_module.proofs.module.Module.mark_tree.Goals as goal

pub returns-clause-covers : goal.returns-clause-covers
returns-clause-covers c =
    let is = index_of c.self.inside.index.value c.deref.result.now (the_view c.self.inside) c.args.self.now c.self.invariant.1 c.self.view_is c.deref.ensures c.requires in
    tree_covered 8192 c.mark_keys.new.filter c.deref.result.now c.args.self.now is c.mark_keys.ensures.covers
