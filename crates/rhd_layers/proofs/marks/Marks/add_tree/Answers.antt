use Rattle.std.proofs.Common.{is_none, ap}
use Rattle.rhd_module.specs.Walk.{tree, qualified}
use Rattle.rhd_layers.proofs.Marked.{added_grows, added_missing, added_dynamic, joined_keeps, joined_covers}
use Rattle.rhd_layers.proofs.marks.Marks.add_tree.Goals as goal

pub returns-clause-grows : goal.returns-clause-grows
returns-clause-grows c =
    added_grows 128 c.args.self.now c.meet.new.self c.seeds.result c.meet.new.self.lists c.tree_may_have_script.result c.dynamic_marks.result.now c.add_assign-2.new.self c.args.keys.now c.add_assign.new.self c.meet.ensures (λ e. e) c.add_assign-2.ensures.after
    (joined_keeps 128 c.args.keys.now c.tree_marks.result.now c.add_assign.new.self c.add_assign.ensures.after)

pub returns-clause-keys : goal.returns-clause-keys
unfolding qualified
returns-clause-keys c = λ key e.
    let m = c.args.module.now in
    ap is_none (added_missing 128 c.args.self.now c.meet.new.self c.seeds.result m.own.seeds c.meet.new.self.lists c.tree_may_have_script.result c.add_assign-2.new.self c.add_assign.new.self (tree m) key c.meet.ensures c.seeds.ensures
    (λ _. joined_covers 128 c.args.keys.now c.tree_marks.result.now c.add_assign.new.self m.own.seeds (tree m) c.add_assign.ensures.after c.tree_marks.ensures) c.tree_may_have_script.ensures e)

pub returns-clause-dynamic : goal.returns-clause-dynamic
returns-clause-dynamic c = λ name params e.
    added_dynamic c.args.self.now c.meet.new.self c.seeds.result c.meet.new.self.lists c.tree_may_have_script.result c.dynamic_marks.result.now c.add_assign-2.new.self c.args.module.now name params c.meet.ensures c.seeds.ensures c.add_assign-2.ensures.after c.dynamic_marks.ensures e
