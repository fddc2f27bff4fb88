use Rattle.std.proofs.Common.{ℕ, List, length, ap, ◌∙◌}
use Rattle.rhd_text.specs.declared.keyword.Keyword.{Keyword}
use Rattle.rhd_text.specs.Rows.{form, all_keywords}
use Rattle.rhd_text.specs.ReadRows.{keyword_in, of_length}
use Rattle.rhd_text.proofs.KeywordLengths.{by_length}
use Rattle.rhd_text.proofs.keyword.keyword_of.Goals as goal

pub returns : goal.returns
returns c =
    let word = c.args.word.now in
    c.keyword_in.ensures ∙ ap (λ (ks : List Keyword). keyword_in form ks word) c.keywords.ensures ∙ by_length form word all_keywords
