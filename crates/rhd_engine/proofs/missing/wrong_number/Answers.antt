use Rattle.std.proofs.Common.{ap, ◌∙◌, List, ℕ, append_assoc}
use Rattle.rhd_value.specs.declared.fault.EvalAltResult.TheVariants.{ErrorParsing}
use Rattle.rhd_value.specs.declared.fault.ParseErrorType.TheVariants.{MalformedIndexExpr}
use Rattle.rhd_engine.proofs.missing.wrong_number.Goals as goal

pub returns : goal.returns
returns c = ap (λ (text : List ℕ). ErrorParsing (MalformedIndexExpr text) c.args.pos) (c.in_ok-text.ensures ∙ c.in_ok-written.ensures.ok ∙ simp append_assoc)
