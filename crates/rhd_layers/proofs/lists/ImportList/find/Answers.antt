use Rattle.rhd_layers.proofs.Indexed.{latest_here, latest_before}
use Rattle.rhd_layers.proofs.lists.ImportList.find.Goals as goal

pub returns-then-eq : goal.returns-then-eq
returns-then-eq c = latest_here c.args.name.now c.args.self.now c.loop-known.known-iterator.iter.rest.now c.next.new.self.iter.rest.now c.in-Some.field-0.now c.loop-known.invariant c.in-Some.ensures.steps c.if-eq.ensures

pub loop-known-preserved : goal.loop-known-preserved
loop-known-preserved c = latest_before c.args.name.now c.args.self.now c.loop-known.known-iterator.iter.rest.now c.next.new.self.iter.rest.now c.in-Some.field-0.now c.loop-known.invariant c.in-Some.ensures.steps c.if-eq.ensures
