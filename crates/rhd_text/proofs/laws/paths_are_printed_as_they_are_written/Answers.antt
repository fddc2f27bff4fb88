use Rattle.rhd_text.proofs.PathsPrinted.{path_prints}
use Rattle.rhd_text.proofs.laws.paths_are_printed_as_they_are_written.Goals as goal

pub returns : goal.returns
returns c = path_prints
