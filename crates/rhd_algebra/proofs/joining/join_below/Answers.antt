use Rattle.std.proofs.Common.{◌∷◌, [], sym, subst}
use Rattle.rhd_module.specs.Algebra.{filled_with, Fills}
use Rattle.rhd_module.specs.Tree.{ModuleTree}
use Rattle.rhd_module.proofs.JoinParts.{clash_first, refused_join}
use Rattle.rhd_algebra.proofs.joining.join_below.Goals as goal

pub returns-in_err-put_unshown : goal.returns-in_err-put_unshown
returns-in_err-put_unshown c =
    let m = c.args.target.now in
    let other = c.args.other.now in
    let done = filled_with other m in
    let r = c.from_residual-in_err-put_unshown.result in
    let fault = c.in_err-put_unshown.field-0.0 in
    subst (λ (t : ModuleTree). Fills other m r t) (sym c.in_err-put_unshown.ensures.err)
    (refused_join r fault (done ∷ []) done m c.from_residual-in_err-put_unshown.ensures (clash_first done [] fault c.in_err-put_unshown.ensures.clash))
