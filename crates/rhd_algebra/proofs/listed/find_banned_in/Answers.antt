use Rattle.std.proofs.Common.{◌+◌, ◌∷◌, drop, sym, ap, ◌∙◌}
use Rattle.std.proofs.lemmas.List.{drop_more}
use Rattle.std.specs.List.{find}
use Rattle.rhd_manifest.specs.Listing.{listed_in}
use Rattle.rhd_module.specs.Manifests.{is_banned_entry, first_banned}
use Rattle.rhd_module.proofs.Banned.{none_here, some_here}
use Rattle.rhd_algebra.proofs.listed.find_banned_in.Goals as goal

pub returns-then-is_some : goal.returns-then-is_some
returns-then-is_some c =
    let ps = c.args.parts.now in
    let i = c.loop-part.part-index in
    let x = c.part-item.result in
    let next = drop_more ps i x c.loop-part-test.true ∙ ap (λ y. y ∷ drop (i + 1) ps) (sym c.part-item.is) in
    some_here is_banned_entry x (drop (i + 1) ps) c.find_banned-found.result (c.find_banned-found.ensures ∙ ap (find is_banned_entry) (c.as_slice.ensures ∙ c.deref.ensures)) (sym c.is_some.ensures ∙ c.if-is_some.true)
    ∙ ap (λ xs. first_banned (listed_in xs)) (sym next) ∙ c.loop-part.invariant

pub loop-part-preserved : goal.loop-part-preserved
loop-part-preserved c =
    let ps = c.args.parts.now in
    let i = c.loop-part.part-index in
    let x = c.part-item.result in
    let next = drop_more ps i x c.loop-part-test.true ∙ ap (λ y. y ∷ drop (i + 1) ps) (sym c.part-item.is) in
    sym (none_here is_banned_entry x (drop (i + 1) ps) c.find_banned-found.result (c.find_banned-found.ensures ∙ ap (find is_banned_entry) (c.as_slice.ensures ∙ c.deref.ensures)) (sym c.is_some.ensures ∙ c.if-is_some.false))
    ∙ ap (λ xs. first_banned (listed_in xs)) (sym next) ∙ c.loop-part.invariant
