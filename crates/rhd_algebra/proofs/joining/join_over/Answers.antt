use Rattle.std.proofs.Common.{◌∷◌, [], sym, subst}
use Rattle.rhd_module.specs.Algebra.{combined_with, Joins}
use Rattle.rhd_module.specs.Contents.{with_doc}
use Rattle.rhd_module.specs.Tree.{ModuleTree}
use Rattle.rhd_module.proofs.JoinParts.{clash_first, refused_join}
use Rattle.rhd_algebra.proofs.joining.join_over.Goals as goal

pub returns-in_err-put_declared : goal.returns-in_err-put_declared
returns-in_err-put_declared c =
    let m = c.args.target.now in
    let done = with_doc c.args.doc (combined_with c.args.other.now m) in
    let r = c.from_residual-in_err-put_declared.result in
    let fault = c.in_err-put_declared.field-0.0 in
    subst (λ (t : ModuleTree). Joins (done ∷ []) done m r t) (sym c.in_err-put_declared.ensures.err)
    (refused_join r fault (done ∷ []) done m c.from_residual-in_err-put_declared.ensures (clash_first done [] fault c.in_err-put_declared.ensures.clash))
