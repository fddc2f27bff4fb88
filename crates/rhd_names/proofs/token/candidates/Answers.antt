use Rattle.std.proofs.Common.{rules}
use Rattle.rhd_names.proofs.Narrowed.{among_words, among_symbols}
use Rattle.rhd_names.proofs.token.candidates.Goals as goal

pub returns-then-begins_with_letter : goal.returns-then-begins_with_letter
returns-then-begins_with_letter c = among_words c.args.syntax.now c.words.result.now (search rules) (search rules)

pub returns-else-begins_with_letter : goal.returns-else-begins_with_letter
returns-else-begins_with_letter c = among_symbols c.args.syntax.now c.symbols.result.now (search rules) (search rules)
