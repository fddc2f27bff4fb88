use Rattle.std.proofs.Common.{◌≡◌, subst, ◌∙◌}
use Rattle.std.specs.Map.{keys_of}
use Rattle.rhd_module.specs.Algebra.{flattened_with}
use Rattle.rhd_module.specs.Contents.{with_doc}
use Rattle.rhd_table.specs.Indexed.{IsClash}
use Rattle.rhd_module.specs.Tree.{ModuleTree, empty_module}
use Rattle.rhd_table.proofs.Fills.{if_err}
use Rattle.rhd_algebra.proofs.joining.flattened.Goals as goal

pub returns-in_err-flatten-clause-clash : goal.returns-in_err-flatten-clause-clash
returns-in_err-flatten-clause-clash c =
    let fault = c.in_err-flatten.field-0.0 in
    let P : ModuleTree → Type 0 = λ m. IsClash m.own.seeds (keys_of (flattened_with c.args.other.now m).own.eager) fault in
    let made : c.set_doc.new.self ≡ with_doc c.args.doc.now (empty_module c.args.seeds) = c.set_doc.ensures ∙ (λ k. with_doc (c.in_ok-dup.ensures k) (c.in_ok-made.ensures k)) in
    if_err c.from_residual-in_err-flatten.result fault _ c.from_residual-in_err-flatten.ensures (subst P made c.in_err-flatten.ensures.clash)
