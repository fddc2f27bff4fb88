use Rattle.std.specs.Map.{keys_of}
use Rattle.rhd_hash.specs.declared.key.Key.{Key}
use Rattle.rhd_decl.specs.declared.declaration.Declaration.{Declaration}
use Rattle.rhd_table.specs.Paths.{unpathed, pathed}
use Rattle.rhd_table.proofs.Fills.{if_err, if_more, clash_then}
use Rattle.rhd_table.proofs.Filled.{clash_before}
use Rattle.rhd_table.proofs.tree_index.TreeIndex.put_pairs.Goals as goal

pub returns-in_err-put_pathed-clause-clash : goal.returns-in_err-put_pathed-clause-clash
returns-in_err-put_pathed-clause-clash c =
    let p : Key × Declaration = (c.args.key.now, c.args.declaration.now) in
    let old = c.args.self.now in
    if_err c.from_residual.result c.in_err-put_pathed.field-0.0 _ c.from_residual.ensures (clash_before old.seeds (unpathed p) (pathed c.args.path.now p) (keys_of old.pairs) c.in_err-put_pathed.field-0.0 c.in_err-put_pathed.ensures.clash)

pub returns-clause-clash : goal.returns-clause-clash
returns-clause-clash c =
    let p : Key × Declaration = (c.args.key.now, c.args.declaration.now) in
    if_more c.put_unpathed.result _ _ (λ f h. clash_then c.args.self.now c.put_pathed.new.self (pathed c.args.path.now p) (unpathed p) _ _ f c.in_ok-put_pathed.ensures.fills h) c.put_unpathed.ensures.clash
