use Rattle.std.proofs.Common.{◌∷◌, [], sym, subst, ◌∙◌}
use Rattle.std.specs.Map.{keys_of}
use Rattle.rhd_hash.specs.declared.mixer.Seeds.{Seeds}
use Rattle.rhd_value.specs.Tree.{Bytes}
use Rattle.rhd_module.specs.Algebra.{flattened_with}
use Rattle.rhd_module.specs.Contents.{with_doc}
use Rattle.rhd_table.specs.Indexed.{IsClash}
use Rattle.rhd_module.specs.Tree.{empty_module}
use Rattle.rhd_algebra.proofs.Gathered.{flattened_clash, flattened_joins}
use Rattle.rhd_algebra.proofs.Plain.{combine_flattens}
use Rattle.rhd_module.proofs.JoinParts.{refused_join}
use Rattle.rhd_algebra.proofs.algebra.ModuleModuleAlgebra.combine_flatten.Goals as goal

pub returns-then-has_no_sub_modules : goal.returns-then-has_no_sub_modules
returns-then-has_no_sub_modules c =
    let alone = sym c.has_no_sub_modules.ensures ∙ c.if-has_no_sub_modules.true in
    combine_flattens c.args.other.now c.args.self.now c.combined.new.target c.combined.result alone c.combined.ensures

pub returns-in_err-made : goal.returns-in_err-made
returns-in_err-made c =
    let m = c.args.self.now in
    let other = c.args.other.now in
    let fault = c.in_err-made.field-0.0 in
    let P : Seeds × Bytes → Type 0 = λ p. IsClash p.0 (keys_of (flattened_with other (with_doc p.1 (empty_module p.0))).own.eager) fault in
    let clash = subst P (λ i. (c.seeds.ensures i, (c.doc.ensures i))) c.in_err-made.ensures.clash in
    refused_join c.from_residual.result fault (flattened_with other m ∷ []) (flattened_with other m) m c.from_residual.ensures (flattened_clash other m fault clash)

pub returns : goal.returns
returns c =
    let m = c.args.self.now in
    let other = c.args.other.now in
    let made = c.in_ok-made.ensures.ok ∙ (λ i. flattened_with other (with_doc (c.doc.ensures i) (empty_module (c.seeds.ensures i)))) in
    let doc = c.in_ok-doc.ensures ∙ c.doc-2.ensures in
    flattened_joins other m c.in_ok-made.made c.join_over.new.target c.in_ok-doc.doc c.join_over.result made doc c.join_over.ensures
