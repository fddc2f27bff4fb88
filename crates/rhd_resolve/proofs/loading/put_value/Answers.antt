use Rattle.std.proofs.Common.{◌∷◌, ◌++◌, [], List, map, take, sym, ap, ◌∙◌}
use Rattle.std.proofs.lemmas.List.{take_more, map-append}
use Rattle.rhd_value.specs.Tree.{Bytes, Tree}
use Rattle.rhd_module.specs.Contents.{with_var}
use Rattle.rhd_module.specs.Manifests.{with_contents}
use Rattle.rhd_resolve.proofs.Contents.{contents_append}
use Rattle.rhd_resolve.proofs.loading.put_value.Goals as goal

pub loop-name-preserved : goal.loop-name-preserved
loop-name-preserved c =
    let xs = c.as_slice-name-items.result.now in
    let i = c.loop-name.name-index in
    let x = c.name-item.result in
    let old = c.args.target.now in
    let f : Bytes → Bytes × Tree = λ name. (name, c.args.entry.now.value) in
    let next = take_more xs i x c.loop-name-test.true ∙ ap (λ y. take i xs ++ y ∷ []) (sym c.name-item.is) in
    c.in_ok-set_var.ensures.ok ∙ (λ k. with_var (c.in_ok-dup.ensures k) (c.in_ok-dup-2.ensures k) (c.loop-name.invariant k))
    ∙ sym (ap (λ (vs : List (Bytes × Tree)). with_contents vs [] old) (ap (map f) next ∙ map-append f (take i xs) (x ∷ [])) ∙ contents_append (map f (take i xs)) (f x ∷ []) old)
