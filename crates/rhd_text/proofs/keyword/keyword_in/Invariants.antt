use Rattle.std.proofs.Common.{◌≡◌, drop}
use Rattle.rhd_text.specs.Rows.{form}
use Rattle.rhd_text.specs.ReadRows.{keyword_in}
use Rattle.rhd_text.proofs.keyword.keyword_in.Given as goal

abbrev pub invariant-loop-k : goal.invariant-loop-k
invariant-loop-k l = keyword_in form (drop l.k-index l.keywords) l.word ≡ keyword_in form l.keywords l.word
