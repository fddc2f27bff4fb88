use Rattle.rhd_text.proofs.CallLaws.{line_read, no_line_read}
use Rattle.rhd_text.proofs.calls.read_call.Goals as goal

pub returns-in-Ok : goal.returns-in-Ok
returns-in-Ok c = rw c.request_in.ensures (line_read c.args.number c.in-Ok.line c.args.line.now c.in-Ok.ensures)

pub returns-in-Err-Bad : goal.returns-in-Err-Bad
returns-in-Err-Bad c = no_line_read c.args.number c.args.line.now (rw c.in-Err-Bad.field-0-is at c.in-Err-Bad.ensures)
