use Rattle.std.proofs.Common.{subst}
use Rattle.rhd_module.specs.Algebra.{merged_with, merged_all, SomeClash}
use Rattle.rhd_module.specs.Tree.{ModuleTree}
use Rattle.rhd_module.proofs.JoinParts.{refused_copy}
use Rattle.rhd_algebra.proofs.joining.merged.Goals as goal

pub returns-in_err-merge : goal.returns-in_err-merge
returns-in_err-merge g c =
    λ tells h.
    let m = c.args.of.now in
    let other = c.args.other.now in
    let fault = c.in_err-merge.field-0.0 in
    let P : ModuleTree → Type 0 = λ t. SomeClash (merged_all tells other t) fault in
    refused_copy c.from_residual-in_err-merge.result fault (merged_all tells other m) (merged_with tells other m) c.from_residual-in_err-merge.ensures (subst P c.in_ok-made.ensures (c.in_err-merge.ensures.clash tells h))
