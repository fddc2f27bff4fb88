use Rattle.std.proofs.Common.{◌∷◌, ◌++◌, [], take, sym, ap, ◌∙◌}
use Rattle.std.proofs.lemmas.List.{take_more}
use Rattle.rhd_value.specs.Entries.{put as put_var}
use Rattle.rhd_module.specs.Manifests.{put_vars}
use Rattle.rhd_module.proofs.Combined.{vars_append}
use Rattle.rhd_algebra.proofs.combining.put_vars.Goals as goal

pub loop-name-preserved : goal.loop-name-preserved
loop-name-preserved c =
    let xs = c.args.more.now in
    let i = c.loop-name.name-index in
    let x = c.loop-name-item.result in
    let old = c.args.vars.now in
    let next = take_more xs i x c.loop-name-test.true ∙ ap (λ y. take i xs ++ y ∷ []) (sym c.loop-name-item.is) in
    c.in_ok-insert.ensures ∙ (λ k. put_var (c.in_ok-dup.ensures k) (c.in_ok-dup-2.ensures k) (c.loop-name.invariant k)) ∙ sym (ap (λ ys. put_vars ys old) next ∙ vars_append (take i xs) (x ∷ []) old)
