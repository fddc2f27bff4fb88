use Rattle.std.proofs.Common.{◌≡◌, ◌+◌, ◌∷◌, ◌++◌, [], take, drop, sym, ap, subst, ◌∙◌}
use Rattle.std.proofs.lemmas.List.{drop_more, take-append-drop}
use Rattle.std.specs.Map.{keys_of}
use Rattle.rhd_manifest.specs.Entry.{entry_pair}
use Rattle.rhd_module.specs.Tree.{ModuleTree}
use Rattle.rhd_table.specs.Indexed.{IsClash}
use Rattle.rhd_table.specs.Pairs.{put_back}
use Rattle.rhd_table.proofs.Fills.{if_err}
use Rattle.rhd_module.proofs.Registers.{clash_at_entry}
use Rattle.rhd_algebra.proofs.listed.register_entries.Goals as goal

pub returns-in_err-register_entry-clause-clash : goal.returns-in_err-register_entry-clause-clash
returns-in_err-register_entry-clause-clash c =
    let es = c.args.entries.now in
    let i = c.loop-entry.entry-index in
    let e = c.entry-item.result in
    let old = c.args.target.now in
    let fault = c.in_err-register_entry.field-0.0 in
    let parts : es ≡ take i es ++ e ∷ drop (i + 1) es = sym (take-append-drop i es) ∙ ap (λ xs. take i es ++ xs) (drop_more es i e c.loop-entry-test.true ∙ ap (λ y. y ∷ drop (i + 1) es) (sym c.entry-item.is)) in
    let P : ModuleTree → Type 0 = λ t. IsClash t.own.seeds (keys_of (put_back (entry_pair t.own.seeds e ∷ []) t.own.eager)) fault in
    if_err c.from_residual.result fault _ c.from_residual.ensures
    (clash_at_entry old.own.seeds (take i es) (drop (i + 1) es) es e old.own.eager fault parts (subst P c.loop-entry.invariant c.in_err-register_entry.ensures.clash))
