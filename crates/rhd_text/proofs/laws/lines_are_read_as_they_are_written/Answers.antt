use Rattle.rhd_text.proofs.TableLaws.{line_sound, line_complete}
use Rattle.rhd_text.proofs.laws.lines_are_read_as_they_are_written.Goals as goal

pub returns : goal.returns
returns c = λ n line bytes. (line_sound n line bytes, line_complete n line bytes)
