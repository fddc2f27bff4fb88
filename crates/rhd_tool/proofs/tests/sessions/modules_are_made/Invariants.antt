use Rattle.std.proofs.Common.{◌≤◌, ◌-◌, length}
use Rattle.rhd_tool.proofs.tests.sessions.modules_are_made.Given as goal

abbrev pub invariant-loop-of-kit : goal.invariant-loop-of-kit
invariant-loop-of-kit g l = length l.natives.items.items ≤ 20

abbrev pub decreases-loop-of-kit : goal.decreases-loop-of-kit
decreases-loop-of-kit g l = 20 - length l.natives.items.items
