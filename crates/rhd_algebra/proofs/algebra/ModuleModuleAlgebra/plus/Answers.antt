use Rattle.std.proofs.Common.{true, rules}
use Rattle.rhd_algebra.proofs.algebra.ModuleModuleAlgebra.plus.Goals as goal

pub returns : goal.returns
returns c = c.merged.ensures (λ d. true) (λ d r p. search rules)
