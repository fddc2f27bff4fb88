use Rattle.std.proofs.Common.{sym, ap, ◌∙◌}
use Rattle.rhd_decl.specs.Flags.{Flagged}
use Rattle.rhd_module.proofs.module.Module.set_standard_lib.Goals as goal

pub invariant_of-self : goal.invariant_of-self
invariant_of-self c =
    (c.self.invariant.0, λ is. c.self.invariant.1 (sym (ap (λ (f : Flagged). f.indexed) c.set_standard.ensures) ∙ is))
