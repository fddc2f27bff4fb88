use Rattle.std.proofs.Common.{◌∷◌, ◌++◌, [], List, take, sym, ap, ◌∙◌}
use Rattle.std.proofs.lemmas.List.{take_more}
use Rattle.rhd_value.specs.Tree.{Bytes, Tree}
use Rattle.rhd_module.specs.Manifests.{with_contents}
use Rattle.rhd_resolve.specs.Loading.{value_named, named_values}
use Rattle.rhd_resolve.proofs.Contents.{values_last, contents_append}
use Rattle.rhd_resolve.proofs.loading.put_scope.Goals as goal

pub loop-entry-preserved : goal.loop-entry-preserved
loop-entry-preserved c =
    let xs = c.args.scope.now in
    let i = c.loop-entry.entry-index in
    let e = c.entry-item.result in
    let old = c.args.target.now in
    let next = take_more xs i e c.loop-entry-test.true ∙ ap (λ y. take i xs ++ y ∷ []) (sym c.entry-item.is) in
    c.in_ok-put_value.ensures ∙ ap (with_contents (value_named e) []) c.loop-entry.invariant
    ∙ sym (ap (λ (vs : List (Bytes × Tree)). with_contents vs [] old) (ap named_values next ∙ values_last (take i xs) e) ∙ contents_append (named_values (take i xs)) (value_named e) old)
