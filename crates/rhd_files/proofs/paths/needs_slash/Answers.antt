use Rattle.std.proofs.Common.{◌≡◌, false, not, codes, sym, ap, ◌∙◌}
use Rattle.std.proofs.lemmas.Str.Pattern.{ends_text}
use Rattle.rhd_files.specs.Paths.{is_empty}
use Rattle.rhd_files.proofs.paths.needs_slash.Goals as goal

pub returns-then-not-is_empty : goal.returns-then-not-is_empty
returns-then-not-is_empty c =
    let some : is_empty c.args.base.now ≡ false = sym c.is_empty.ensures ∙ c.if-not-is_empty.true in
    rw some (ap not (ends_text _ (codes "/") c.args.base.now c.ends_with.ensures.cases))
