use Rattle.std.proofs.Common.{refl}
use Rattle.rhd_machine.proofs.machine.wait.Goals as goal

pub returns-clause-ok : goal.returns-clause-ok
returns-clause-ok c = record {
  frame = record { suspended = c.args.suspended; outer = c.in_ok-outer.outer };
  waits = refl;
  outer = c.in_ok-outer.ensures.outer;
  stack = c.in_ok-push.ensures.items;
  enters = rw c.level.ensures at c.in_ok-outer.ensures.ok;
}
