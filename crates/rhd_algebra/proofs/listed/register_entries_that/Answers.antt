use Rattle.std.proofs.Common.{◌≡◌, ◌+◌, ◌∷◌, ◌++◌, [], map, reverse, take, drop, sym, ap, subst, ◌∙◌}
use Rattle.std.proofs.lemmas.List.{drop_more, take_more, take-append-drop}
use Rattle.std.specs.Map.{keys_of}
use Rattle.rhd_manifest.specs.Entry.{entry_pair}
use Rattle.rhd_module.specs.Tree.{ModuleTree}
use Rattle.rhd_module.specs.Algebra.{that_pass}
use Rattle.rhd_table.specs.Indexed.{IsClash}
use Rattle.rhd_module.specs.Manifests.{with_pairs}
use Rattle.rhd_table.specs.Pairs.{put_back}
use Rattle.rhd_table.proofs.Fills.{if_err}
use Rattle.rhd_module.proofs.JoinParts.{entry_next, clash_entry}
use Rattle.rhd_algebra.proofs.listed.register_entries_that.Goals as goal

pub returns-in_err-register_entry_that-clause-clash : goal.returns-in_err-register_entry_that-clause-clash
returns-in_err-register_entry_that-clause-clash g c =
    λ tells h.
    let es = c.args.entries.now in
    let i = c.loop-entry.entry-index in
    let e = c.entry-item.result in
    let old = c.args.made.now in
    let fault = c.in_err-register_entry_that.field-0.0 in
    let parts : es ≡ take i es ++ e ∷ drop (i + 1) es = sym (take-append-drop i es) ∙ ap (λ xs. take i es ++ xs) (drop_more es i e c.loop-entry-test.true ∙ ap (λ y. y ∷ drop (i + 1) es) (sym c.entry-item.is)) in
    let P : ModuleTree → Type 0 = λ t. IsClash t.own.seeds (keys_of (put_back (that_pass tells (entry_pair t.own.seeds e ∷ [])) t.own.eager)) fault in
    if_err c.from_residual.result fault _ c.from_residual.ensures
    (clash_entry (λ p. tells p.1) old.own.seeds (take i es) (drop (i + 1) es) es e old.own.eager fault parts (subst P (c.loop-entry.invariant tells h) (c.in_err-register_entry_that.ensures.clash tells h)))

pub loop-entry-preserved : goal.loop-entry-preserved
loop-entry-preserved g c =
    λ tells h.
    let es = c.args.entries.now in
    let i = c.loop-entry.entry-index in
    let e = c.entry-item.result in
    let old = c.args.made.now in
    let new = c.register_entry_that.new.made in
    let is = c.loop-entry.invariant tells h in
    let next = take_more es i e c.loop-entry-test.true ∙ ap (λ y. take i es ++ y ∷ []) (sym c.entry-item.is) in
    c.in_ok-register_entry_that.ensures.ok tells h ∙ (λ k. with_pairs (put_back (that_pass tells (entry_pair (is k).own.seeds e ∷ [])) (is k).own.eager) new.own.indexed (is k))
    ∙ ap (λ qs. with_pairs qs new.own.indexed old) (entry_next (λ p. tells p.1) old.own.seeds (take i es) e old.own.eager ∙ ap (λ xs. put_back (that_pass tells (map (entry_pair old.own.seeds) (reverse xs))) old.own.eager) (sym next))
