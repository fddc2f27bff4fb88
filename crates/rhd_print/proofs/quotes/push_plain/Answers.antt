use Rattle.rhd_print.proofs.PlainRuns.{plain_front}
use Rattle.rhd_print.proofs.quotes.push_plain.Goals as goal

pub returns-clause-same : goal.returns-clause-same
returns-clause-same c = rw (c.in_ok-extend_from_slice.ensures.items, c.split_at.ensures.front, c.split_at.ensures.back, c.plain_len.ensures.length) (plain_front c.args.quote c.args.out.now.items c.args.text.now)
