use Rattle.std.proofs.Common.{◌∷◌, ◌++◌, [], take, sym, ap, ◌∙◌}
use Rattle.std.proofs.lemmas.List.{take_more}
use Rattle.rhd_decl.specs.CustomTypes.{type_info, put_type}
use Rattle.rhd_module.specs.Manifests.{put_types}
use Rattle.rhd_module.proofs.Combined.{types_append}
use Rattle.rhd_algebra.proofs.combining.put_types.Goals as goal

pub loop-type_name-preserved : goal.loop-type_name-preserved
loop-type_name-preserved c =
    let xs = c.args.more.now in
    let i = c.loop-type_name.type_name-index in
    let x = c.loop-type_name-item.result in
    let old = c.args.types.now in
    let next = take_more xs i x c.loop-type_name-test.true ∙ ap (λ y. take i xs ++ y ∷ []) (sym c.loop-type_name-item.is) in
    c.in_ok-add.ensures.ok ∙ (λ k. put_type (c.in_ok-dup.ensures k) (type_info (c.in_ok-dup.ensures k) (c.in_ok-dup-2.ensures k) []) (c.loop-type_name.invariant k)) ∙ sym (ap (λ ys. put_types ys old) next ∙ types_append (take i xs) (x ∷ []) old)
