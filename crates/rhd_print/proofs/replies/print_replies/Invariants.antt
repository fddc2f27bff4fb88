use Rattle.std.proofs.Common.{◌≡◌, ◌++◌, take}
use Rattle.rhd_print.specs.PrintedReplies.{all_printed}
use Rattle.rhd_print.proofs.replies.print_replies.Given as goal

abbrev pub invariant-loop-reply : goal.invariant-loop-reply
invariant-loop-reply l = l.out.items ≡ l.fn.out.items ++ all_printed (take l.reply-index l.replies)
