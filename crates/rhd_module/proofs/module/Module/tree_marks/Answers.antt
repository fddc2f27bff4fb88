use Rattle.rhd_module.specs.contracts.module.Module.{the_view}
use Rattle.rhd_module.proofs.Covered.{index_of, tree_covered}
use Rattle.rhd_module.proofs.module.Module.tree_marks.Goals as goal

pub returns : goal.returns
returns c =
    let is = index_of c.self.inside.index.value c.deref.result.now (the_view c.self.inside) c.args.self.now c.self.invariant.1 c.self.view_is c.deref.ensures c.requires in
    tree_covered 128 c.key_marks.result.now c.deref.result.now c.args.self.now is c.key_marks.ensures
