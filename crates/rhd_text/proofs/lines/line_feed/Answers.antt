use Rattle.rhd_text.proofs.LineLaws.{first_byte}
use Rattle.rhd_text.proofs.lines.line_feed.Goals as goal

pub returns : goal.returns
returns c = first_byte c.args.bytes.now c.memchr.result c.memchr.ensures
