use Rattle.std.proofs.Common.{◌≡◌, take}
use Rattle.rhd_call.proofs.command.Commands.dup.Given as goal

abbrev pub invariant-loop-command : goal.invariant-loop-command
invariant-loop-command l = l.commands ≡ take l.command-index l.command-items
