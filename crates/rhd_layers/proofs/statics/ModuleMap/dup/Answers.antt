use Rattle.rhd_layers.proofs.Indexed.{copied_step}
use Rattle.rhd_layers.proofs.statics.ModuleMap.dup.Goals as goal

pub loop-name-preserved-in_ok-insert : goal.loop-name-preserved-in_ok-insert
loop-name-preserved-in_ok-insert c =
    copied_step c.loop-name.copy.entries c.next.new.self c.loop-name.name-iterator c.args.self.now c.self.inside.modules.entries c.insert.new.self.entries (c.in-Some.name.now, c.in-Some.module.now) c.in_ok-dup.field-0 c.in_ok-dup-2.field-0 c.iter-name-items.ensures.ordered c.self.view_is c.loop-name.invariant c.in-Some.ensures.steps
    c.in_ok-dup.ensures c.in_ok-dup-2.ensures c.in_ok-insert.ensures.entries

pub loop-name-preserved : goal.loop-name-preserved
loop-name-preserved c =
    copied_step c.loop-name.copy.entries c.next.new.self c.loop-name.name-iterator c.args.self.now c.self.inside.modules.entries c.insert.new.self.entries (c.in-Some.name.now, c.in-Some.module.now) c.in_ok-dup.field-0 c.in_ok-dup-2.field-0 c.iter-name-items.ensures.ordered c.self.view_is c.loop-name.invariant c.in-Some.ensures.steps
    c.in_ok-dup.ensures c.in_ok-dup-2.ensures c.in_ok-insert.ensures.entries
