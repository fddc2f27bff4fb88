use Rattle.rhd_syntax.proofs.WholeLaws.{whole_none}
use Rattle.rhd_syntax.proofs.operand.read_value.Goals as goal

pub returns-in-Err-Bad : goal.returns-in-Err-Bad
returns-in-Err-Bad c = whole_none c.args.bytes.now (rw c.in-Err-Bad.field-0-is at c.in-Err-Bad.ensures)
