use Rattle.std.proofs.Common.{ap, ◌∙◌, List, ℕ, append_assoc}
use Rattle.rhd_value.specs.declared.fault.EvalAltResult.TheVariants.{ErrorDataRace}
use Rattle.rhd_dispatch.proofs.races.locked_at.Goals as goal

pub returns : goal.returns
returns c = ap (λ (text : List ℕ). ErrorDataRace text c.args.pos) (c.in_ok-text.ensures ∙ c.in_ok-written.ensures.ok ∙ simp (append_assoc, c.as_str.ensures))
