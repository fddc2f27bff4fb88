use Rattle.std.proofs.Common.{is_none, ap, ◌||◌}
use Rattle.rhd_module.specs.Shown.{shown, own_decl}
use Rattle.rhd_layers.proofs.Marked.{added_grows, added_missing, added_dynamic, told_keeps, neither}
use Rattle.rhd_layers.proofs.marks.Marks.add.Goals as goal

pub returns-clause-grows : goal.returns-clause-grows
returns-clause-grows c =
    added_grows 128 c.args.self.now c.meet.new.self c.seeds.result (c.meet.new.self.lists || c.join_own.result) c.may_have_script.result c.dynamic_marks.result.now c.add_assign.new.self c.args.keys.now c.join_own.new.keys c.meet.ensures (λ e. (neither c.meet.new.self.lists c.join_own.result e).0) c.add_assign.ensures.after
    (told_keeps 128 c.args.keys.now c.join_own.new.keys c.join_own.ensures.kept)

pub returns-clause-keys : goal.returns-clause-keys
unfolding own_decl
returns-clause-keys c = λ key e.
    let m = c.args.module.now in
    ap is_none (added_missing 128 c.args.self.now c.meet.new.self c.seeds.result m.own.seeds (c.meet.new.self.lists || c.join_own.result) c.may_have_script.result c.add_assign.new.self c.join_own.new.keys (shown m.own) key c.meet.ensures c.seeds.ensures
    (λ plain. c.join_own.ensures.covers (neither c.meet.new.self.lists c.join_own.result plain).1) c.may_have_script.ensures e)

pub returns-clause-dynamic : goal.returns-clause-dynamic
returns-clause-dynamic c = λ name params e.
    added_dynamic c.args.self.now c.meet.new.self c.seeds.result (c.meet.new.self.lists || c.join_own.result) c.may_have_script.result c.dynamic_marks.result.now c.add_assign.new.self c.args.module.now name params c.meet.ensures c.seeds.ensures c.add_assign.ensures.after c.dynamic_marks.ensures e
