use Rattle.std.proofs.Common.{sym, ◌∙◌}
use Rattle.rhd_algebra.proofs.Plain.{combine_merges}
use Rattle.rhd_algebra.proofs.algebra.ModuleModuleAlgebra.merge.Goals as goal

pub returns-then-only_declares : goal.returns-then-only_declares
returns-then-only_declares c =
    let plain = sym c.only_declares.ensures ∙ c.if-only_declares.true in
    combine_merges c.args.other.now c.args.self.now c.combined.new.target c.combined.result plain c.combined.ensures
