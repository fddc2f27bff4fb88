use Rattle.std.proofs.Common.{sym, ◌+◌}
use Rattle.std.proofs.lemmas.List.{take_rest}
use Rattle.rhd_text.proofs.LineLaws.{line_ends_at, no_line_feed, empty_end}
use Rattle.rhd_text.proofs.LineUtf8.{line_is_utf8, rest_is_utf8, nothing_is_utf8}
use Rattle.rhd_text.proofs.lines.first_line.Goals as goal

pub returns-in-None-clause-lines : goal.returns-in-None-clause-lines
returns-in-None-clause-lines c = rw (empty_end c.args.bytes.now) (no_line_feed c.args.bytes.now (sym c.in-None.ensures) c.requires)

pub returns-in-Some-clause-lines : goal.returns-in-Some-clause-lines
returns-in-Some-clause-lines c =
    rw (take_rest c.args.bytes.now (c.in-Some.n + 1), c.without_return.ensures) (line_ends_at c.args.bytes.now c.in-Some.n (sym c.in-Some.ensures)).1

pub returns-in-None-clause-rest_text : goal.returns-in-None-clause-rest_text
returns-in-None-clause-rest_text c h = rw (empty_end c.args.bytes.now) nothing_is_utf8

pub returns-in-Some-clause-line_text : goal.returns-in-Some-clause-line_text
returns-in-Some-clause-line_text c h = rw (c.without_return.ensures) (line_is_utf8 c.args.bytes.now c.in-Some.n (sym c.in-Some.ensures) h)

pub returns-in-Some-clause-rest_text : goal.returns-in-Some-clause-rest_text
returns-in-Some-clause-rest_text c h = rw (take_rest c.args.bytes.now (c.in-Some.n + 1)) (rest_is_utf8 c.args.bytes.now c.in-Some.n (sym c.in-Some.ensures) h)
