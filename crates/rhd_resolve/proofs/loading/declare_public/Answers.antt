use Rattle.std.proofs.Common.{◌+◌, ◌∷◌, ◌++◌, [], Some, take, drop, sym, ap, subst, ◌∙◌}
use Rattle.std.specs.Map.{keys_of}
use Rattle.std.proofs.lemmas.List.{take_more}
use Rattle.rhd_table.specs.Indexed.{IsClash}
use Rattle.rhd_module.specs.Tree.{ModuleTree}
use Rattle.rhd_table.proofs.Fills.{if_err}
use Rattle.rhd_resolve.specs.Loading.{with_scripts, is_public, public_functions}
use Rattle.rhd_resolve.proofs.ScriptsDeclared.{scripts_append, clash_script, parted, public_more, public_less, public_all}
use Rattle.rhd_resolve.proofs.loading.declare_public.Goals.{in-Public+in_ok-declare-in-Public, in-Private}
use Rattle.rhd_resolve.proofs.loading.declare_public.Goals as goal

pub loop-def-preserved : goal.loop-def-preserved
loop-def-preserved c =
    let xs = c.args.functions.now in
    let i = c.loop-def.def-index in
    let d = c.def-item.result in
    let m = c.args.target.now in
    let env = Some c.args.env in
    let next = take_more xs i d c.loop-def-test.true ∙ ap (λ y. take i xs ++ y ∷ []) (sym c.def-item.is) in
    let whole = sym (ap (λ ys. with_scripts env (public_functions ys) m) next) in
    elim c.match-def.branch [
      | in-Public+in_ok-declare-in-Public w ↦
          let is = ap is_public (ap (λ def. def.access) (sym c.def.ensures) ∙ w.in-Public.is) in
          w.target-is ∙ w.in_ok-declare-in-Public.ensures.ok ∙ ap (with_scripts env (d ∷ [])) c.loop-def.invariant
          ∙ sym (ap (λ ys. with_scripts env ys m) (public_more (take i xs) d is) ∙ scripts_append env (public_functions (take i xs)) (d ∷ []) m) ∙ whole
      | in-Private w ↦
          let is = ap is_public (ap (λ def. def.access) (sym c.def.ensures) ∙ w.in-Private.is) in
          w.target-is ∙ c.loop-def.invariant ∙ sym (ap (λ ys. with_scripts env ys m) (public_less (take i xs) d is)) ∙ whole
    ]

pub returns-in_err-declare-in-Public-clause-clash : goal.returns-in_err-declare-in-Public-clause-clash
returns-in_err-declare-in-Public-clause-clash c =
    let xs = c.args.functions.now in
    let i = c.loop-def.def-index in
    let d = c.def-item.result in
    let m = c.args.target.now in
    let env = Some c.args.env in
    let fault = c.in_err-declare-in-Public.field-0.0 in
    let is = ap is_public (ap (λ def. def.access) (sym c.def.ensures) ∙ c.in-Public.is) in
    let next = take_more xs i d c.loop-def-test.true ∙ ap (λ y. take i xs ++ y ∷ []) (sym c.def-item.is) in
    let all = public_all (take i xs) (drop (i + 1) xs) xs d is (parted xs i d next) in
    let P : ModuleTree → Type 0 = λ t. IsClash t.own.seeds (keys_of (with_scripts env (d ∷ []) t).own.eager) fault in
    if_err c.from_residual.result fault _ c.from_residual.ensures
    (clash_script env (public_functions (take i xs)) (public_functions (drop (i + 1) xs)) (public_functions xs) d m fault all (subst P c.loop-def.invariant c.in_err-declare-in-Public.ensures.clash))
