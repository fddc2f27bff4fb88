use Rattle.std.proofs.Common.{◌+◌, ◌∷◌, ◌++◌, [], None, take, drop, sym, ap, subst, ◌∙◌}
use Rattle.std.specs.Map.{keys_of}
use Rattle.std.proofs.lemmas.List.{take_more}
use Rattle.rhd_table.specs.Indexed.{IsClash}
use Rattle.rhd_module.specs.Tree.{ModuleTree}
use Rattle.rhd_table.proofs.Fills.{if_err}
use Rattle.rhd_resolve.specs.Loading.{with_scripts}
use Rattle.rhd_resolve.proofs.ScriptsDeclared.{scripts_append, clash_script, parted}
use Rattle.rhd_resolve.proofs.loading.declare_all.Goals as goal

pub loop-def-preserved : goal.loop-def-preserved
loop-def-preserved c =
    let xs = c.args.functions.now in
    let i = c.loop-def.def-index in
    let d = c.def-item.result in
    let m = c.args.target.now in
    let next = take_more xs i d c.loop-def-test.true ∙ ap (λ y. take i xs ++ y ∷ []) (sym c.def-item.is) in
    c.in_ok-declare.ensures.ok ∙ ap (with_scripts None (d ∷ [])) c.loop-def.invariant ∙ sym (ap (λ ys. with_scripts None ys m) next ∙ scripts_append None (take i xs) (d ∷ []) m)

pub returns-in_err-declare-clause-clash : goal.returns-in_err-declare-clause-clash
returns-in_err-declare-clause-clash c =
    let xs = c.args.functions.now in
    let i = c.loop-def.def-index in
    let d = c.def-item.result in
    let m = c.args.target.now in
    let fault = c.in_err-declare.field-0.0 in
    let next = take_more xs i d c.loop-def-test.true ∙ ap (λ y. take i xs ++ y ∷ []) (sym c.def-item.is) in
    let P : ModuleTree → Type 0 = λ t. IsClash t.own.seeds (keys_of (with_scripts None (d ∷ []) t).own.eager) fault in
    if_err c.from_residual.result fault _ c.from_residual.ensures (clash_script None (take i xs) (drop (i + 1) xs) xs d m fault (parted xs i d next) (subst P c.loop-def.invariant c.in_err-declare.ensures.clash))
