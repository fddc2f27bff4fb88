use Rattle.std.proofs.Common.{◌≡◌, drop}
use Rattle.rhd_text.specs.ReadRows.{keyword_in}
use Rattle.rhd_loader.specs.Rows.{module_form}
use Rattle.rhd_loader.proofs.keyword.word_in.Given as goal

abbrev pub invariant-loop-k : goal.invariant-loop-k
invariant-loop-k l = keyword_in module_form (drop l.k-index l.words) l.word ≡ keyword_in module_form l.words l.word
