use Rattle.std.proofs.Common.{◌||◌, ◌∷◌, ◌++◌, [], take, sym, ap, ◌∙◌}
use Rattle.std.proofs.lemmas.List.{take_more}
use Rattle.rhd_hash.specs.Filter.{is_marked}
use Rattle.rhd_manifest.specs.Listing.{listed_in}
use Rattle.rhd_table.specs.Marks.{lists_dynamic}
use Rattle.rhd_table.proofs.Banned.{marks_last}
use Rattle.rhd_table.proofs.marks.mark_parts.Goals as goal

pub loop-part-preserved : goal.loop-part-preserved
loop-part-preserved c = λ v.
    let ps = c.args.parts.now in
    let i = c.loop-part.part-index in
    let x = c.part-item.result in
    let next = take_more ps i x c.loop-part-test.true ∙ ap (λ y. take i ps ++ y ∷ []) (sym c.part-item.is) in
    marks_last c.args.seeds v (take i ps) x (is_marked 8 c.args.filter.now v) (is_marked 8 c.loop-part.filter v) (is_marked 8 c.mark_entries.new.filter v) (c.loop-part.invariant v)
    (c.mark_entries.ensures v ∙ ap (λ es. is_marked 8 c.loop-part.filter v || lists_dynamic c.args.seeds v es) (c.as_slice.ensures ∙ c.deref.ensures))
    ∙ ap (λ xs. is_marked 8 c.args.filter.now v || lists_dynamic c.args.seeds v (listed_in xs)) (sym next)
