use Rattle.rhd_syntax.proofs.Utf8Laws.{quoted_utf8, character_utf8, unquoted_utf8, bracketed_utf8}
use Rattle.rhd_syntax.proofs.laws.texts_of_lines_are_utf8.Goals as goal

pub returns-clause-quoted : goal.returns-clause-quoted
returns-clause-quoted c = quoted_utf8

pub returns-clause-character : goal.returns-clause-character
returns-clause-character c = character_utf8

pub returns-clause-unquoted : goal.returns-clause-unquoted
returns-clause-unquoted c = unquoted_utf8

pub returns-clause-bracketed : goal.returns-clause-bracketed
returns-clause-bracketed c = bracketed_utf8
