use Rattle.std.proofs.Common.{◌++◌, ◌∷◌, [], reverse, take, sym, ap, ◌∙◌}
use Rattle.std.proofs.lemmas.List.{take_more}
use Rattle.rhd_manifest.specs.Listing.{listed_in}
use Rattle.rhd_manifest.proofs.Firsts.{listed_last}
use Rattle.rhd_manifest.proofs.listing.Listing.dup.Goals as goal

pub loop-part-preserved : goal.loop-part-preserved
loop-part-preserved c =
    let xs = c.deref-part-items.result.now in
    let i = c.loop-part.part-index in
    let x = c.part-item.result in
    ap listed_in c.in_ok-push.ensures.items ∙ listed_last c.loop-part.parts.items c.in_ok-share.field-0
    ∙ (λ k. reverse (c.in_ok-share.ensures k) ++ c.loop-part.invariant k)
    ∙ sym (ap listed_in (take_more xs i x c.loop-part-test.true ∙ ap (λ y. take i xs ++ y ∷ []) (sym c.part-item.is)) ∙ listed_last (take i xs) x)
