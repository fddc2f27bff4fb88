use Rattle.rhd_laws.proofs.PrintedNodes.{tree_text}
use Rattle.rhd_laws.proofs.calls.a_printer_that_is_set_prints_a_text.Goals as goal

pub returns : goal.returns
returns g c = λ r node inside text. tree_text _ _ inside text r.runs
