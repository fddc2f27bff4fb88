use Rattle.std.proofs.Common.{Result, Ok, Err}
use Rattle.std.specs.Result.{OnOk}
use Rattle.std.specs.Map.{keys_of}
use Rattle.rhd_hash.specs.declared.key.Key.{Key}
use Rattle.rhd_decl.specs.declared.declaration.Declaration.{Declaration}
use Rattle.rhd_manifest.specs.Entry.{entry_pair}
use Rattle.rhd_table.specs.Paths.{unpathed, pathed}
use Rattle.rhd_table.proofs.Fills.{if_err, if_more, clash_then, fills_then}
use Rattle.rhd_table.proofs.Filled.{clash_before}
use Rattle.rhd_table.proofs.tree_index.TreeIndex.put_entry_pairs.Goals as goal

on_ok : {A E : Type 0} (r : Result A E) (P Q : Type 0) → (P → Q) → OnOk r P → OnOk r Q
on_ok (Ok a) P Q more p = more p
on_ok (Err e) P Q more p = tt

pub returns-in_err-put_entry_pathed-clause-clash : goal.returns-in_err-put_entry_pathed-clause-clash
returns-in_err-put_entry_pathed-clause-clash c = λ seeds.
    let p : Key × Declaration = entry_pair seeds c.args.entry.now in
    let old = c.args.self.now in
    if_err c.from_residual.result c.in_err-put_entry_pathed.field-0.0 _ c.from_residual.ensures
    (clash_before old.seeds (unpathed p) (pathed c.args.path.now p) (keys_of old.pairs) c.in_err-put_entry_pathed.field-0.0 (c.in_err-put_entry_pathed.ensures.clash seeds))

pub returns-clause-fills : goal.returns-clause-fills
returns-clause-fills c = λ seeds.
    let p : Key × Declaration = entry_pair seeds c.args.entry.now in
    on_ok c.put_entry_unpathed.result _ _ (fills_then c.args.self.now c.put_entry_pathed.new.self c.put_entry_unpathed.new.self (pathed c.args.path.now p) (unpathed p) _ _ _ _ (c.in_ok-put_entry_pathed.ensures.fills seeds)) (c.put_entry_unpathed.ensures.fills seeds)

pub returns-clause-clash : goal.returns-clause-clash
returns-clause-clash c = λ seeds.
    let p : Key × Declaration = entry_pair seeds c.args.entry.now in
    if_more c.put_entry_unpathed.result _ _ (λ f h. clash_then c.args.self.now c.put_entry_pathed.new.self (pathed c.args.path.now p) (unpathed p) _ _ f (c.in_ok-put_entry_pathed.ensures.fills seeds) h) (c.put_entry_unpathed.ensures.clash seeds)
