use Rattle.std.proofs.Common.{◌∷◌, ◌++◌, [], take, sym, ap, ◌∙◌}
use Rattle.std.proofs.lemmas.List.{take_more}
use Rattle.rhd_value.specs.Tree.{Bytes}
use Rattle.rhd_module.specs.Contents.{with_sub}
use Rattle.rhd_module.specs.Tree.{ModuleTree}
use Rattle.rhd_resolve.specs.Loading.{imported}
use Rattle.rhd_resolve.proofs.Contents.{imported_last}
use Rattle.rhd_resolve.proofs.loading.put_imports.Goals as goal

pub loop-name-preserved : goal.loop-name-preserved
loop-name-preserved c =
    let xs = c.as_slice-name-items.result.now in
    let i = c.loop-name.name-index in
    let x : Bytes × ModuleTree = c.loop-name-item.result in
    let old = c.args.target.now in
    let next = take_more xs i x c.loop-name-test.true ∙ ap (λ y. take i xs ++ y ∷ []) (sym c.loop-name-item.is) in
    let puts = c.in_ok-set_sub_module.ensures.ok ∙ (λ k. with_sub (c.in_ok-dup.ensures k) ((c.into_rc.ensures ∙ c.in_ok-dup-2.ensures) k) (c.loop-name.invariant k)) in
    puts ∙ (λ k. record { own = record old.own { indexed = (sym puts k).own.indexed }; subs = sym (ap (λ ys. imported ys old.subs) next ∙ imported_last (take i xs) x old.subs) k })
