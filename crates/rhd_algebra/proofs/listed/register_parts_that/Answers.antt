use Rattle.std.proofs.Common.{◌≡◌, ◌+◌, List, ◌∷◌, ◌++◌, [], map, reverse, take, drop, sym, ap, subst, ◌∙◌}
use Rattle.std.proofs.lemmas.List.{drop_more, take_more, take-append-drop}
use Rattle.std.specs.Map.{keys_of}
use Rattle.rhd_manifest.specs.Entry.{Entry, entry_pair}
use Rattle.rhd_manifest.specs.Listing.{listed_in}
use Rattle.rhd_module.specs.Tree.{ModuleTree}
use Rattle.rhd_module.specs.Algebra.{that_pass}
use Rattle.rhd_table.specs.Indexed.{IsClash}
use Rattle.rhd_module.specs.Manifests.{with_pairs}
use Rattle.rhd_table.specs.Pairs.{put_back}
use Rattle.rhd_table.proofs.Fills.{if_err}
use Rattle.rhd_module.proofs.JoinParts.{part_next, clash_part}
use Rattle.rhd_algebra.proofs.listed.register_parts_that.Goals as goal

pub returns-in_err-register_entries_that-clause-clash : goal.returns-in_err-register_entries_that-clause-clash
returns-in_err-register_entries_that-clause-clash g c =
    λ tells h.
    let ps = c.args.parts.now in
    let i = c.loop-part.part-index in
    let x = c.part-item.result in
    let old = c.args.made.now in
    let fault = c.in_err-register_entries_that.field-0.0 in
    let parts : ps ≡ take i ps ++ x ∷ drop (i + 1) ps = sym (take-append-drop i ps) ∙ ap (λ xs. take i ps ++ xs) (drop_more ps i x c.loop-part-test.true ∙ ap (λ y. y ∷ drop (i + 1) ps) (sym c.part-item.is)) in
    let P : ModuleTree × List Entry → Type 0 = λ t. IsClash t.0.own.seeds (keys_of (put_back (that_pass tells (map (entry_pair t.0.own.seeds) (reverse t.1))) t.0.own.eager)) fault in
    if_err c.from_residual.result fault _ c.from_residual.ensures
    (clash_part (λ p. tells p.1) old.own.seeds (take i ps) (drop (i + 1) ps) ps x old.own.eager fault parts
    (subst P (λ k. (c.loop-part.invariant tells h k, (c.as_slice.ensures ∙ c.deref.ensures) k)) (c.in_err-register_entries_that.ensures.clash tells h)))

pub loop-part-preserved : goal.loop-part-preserved
loop-part-preserved g c =
    λ tells h.
    let ps = c.args.parts.now in
    let i = c.loop-part.part-index in
    let x = c.part-item.result in
    let old = c.args.made.now in
    let new = c.register_entries_that.new.made in
    let is = c.loop-part.invariant tells h in
    let next = take_more ps i x c.loop-part-test.true ∙ ap (λ y. take i ps ++ y ∷ []) (sym c.part-item.is) in
    c.in_ok-register_entries_that.ensures.ok tells h
    ∙ (λ k. with_pairs (put_back (that_pass tells (map (entry_pair (is k).own.seeds) (reverse ((c.as_slice.ensures ∙ c.deref.ensures) k)))) (is k).own.eager) new.own.indexed (is k))
    ∙ ap (λ qs. with_pairs qs new.own.indexed old) (part_next (λ p. tells p.1) old.own.seeds (take i ps) x old.own.eager ∙ ap (λ xs. put_back (that_pass tells (map (entry_pair old.own.seeds) (listed_in xs))) old.own.eager) (sym next))
