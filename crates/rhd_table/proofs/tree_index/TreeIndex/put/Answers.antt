use Rattle.std.proofs.Common.{◌∷◌, subst}
use Rattle.std.specs.Map.{keys_of}
use Rattle.rhd_table.specs.Indexed.{Indexed, IsClash}
use Rattle.rhd_table.proofs.Fills.{if_err, refused_clash}
use Rattle.rhd_table.proofs.tree_index.TreeIndex.put.Goals as goal

pub returns-in_err-put_func-clause-clash : goal.returns-in_err-put_func-clause-clash
returns-in_err-put_func-clause-clash c =
    let why = c.in_err-put_func.ensures.refused in
    let fault = c.in_err-put_func.field-0.0 in
    let P : Indexed → Type 0 = λ i. IsClash i.seeds (c.args.key ∷ keys_of i.pairs) fault in
    if_err c.from_residual.result fault _ c.from_residual.ensures (subst P c.self.view_is (refused_clash c.self.inside.table c.args.key why.0 fault why.1 why.2))
