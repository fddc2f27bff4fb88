use Rattle.std.proofs.Common.{◌≡◌, ◌+◌, ◌||◌, ◌∷◌, List, Bool, true, false, drop, reverse, is_some, refl, sym, ap, ◌∙◌}
use Rattle.std.proofs.lemmas.List.{drop_more}
use Rattle.std.proofs.lemmas.List.Folds.{list_any-append}
use Rattle.std.specs.List.{list_any}
use Rattle.rhd_manifest.specs.Listing.{listed_in}
use Rattle.rhd_manifest.specs.Rank.{find_entry}
use Rattle.rhd_manifest.proofs.Firsts.{under, any_found}
use Rattle.rhd_manifest.proofs.Ranks.{copied_is}
use Rattle.rhd_manifest.proofs.listing.any_has.Goals as goal

or_true : (a : Bool) → (a || true) ≡ true
or_true true = refl
or_true false = refl

or_false : (a : Bool) → (a || false) ≡ a
or_false true = refl
or_false false = refl

pub returns-then-is_some : goal.returns-then-is_some
returns-then-is_some c =
    let t = under c.args.key.now in
    let ps = c.args.parts.now in
    let i = c.loop-part.part-index in
    let x = c.part-item.result in
    let found : list_any t (reverse x.value) ≡ true = sym (any_found t (reverse x.value)) ∙ ap is_some (sym (c.find_key.ensures ∙ ap (λ es. find_entry c.args.key.now (reverse es)) c.deref.ensures)) ∙ copied_is c.find_key.result c.is_some.result c.is_some.ensures ∙ c.if-is_some.true in
    sym (sym c.loop-part.invariant ∙ ap (λ (xs : List _). list_any t (listed_in xs)) (drop_more ps i x c.loop-part-test.true ∙ ap (λ y. y ∷ drop (i + 1) ps) (sym c.part-item.is))
    ∙ list_any-append t (listed_in (drop (i + 1) ps)) (reverse x.value) ∙ ap (λ b. list_any t (listed_in (drop (i + 1) ps)) || b) found ∙ or_true (list_any t (listed_in (drop (i + 1) ps))))

pub loop-part-preserved : goal.loop-part-preserved
loop-part-preserved c =
    let t = under c.args.key.now in
    let ps = c.args.parts.now in
    let i = c.loop-part.part-index in
    let x = c.part-item.result in
    let none : list_any t (reverse x.value) ≡ false = sym (any_found t (reverse x.value)) ∙ ap is_some (sym (c.find_key.ensures ∙ ap (λ es. find_entry c.args.key.now (reverse es)) c.deref.ensures)) ∙ copied_is c.find_key.result c.is_some.result c.is_some.ensures ∙ c.if-is_some.false in
    sym (sym c.loop-part.invariant ∙ ap (λ (xs : List _). list_any t (listed_in xs)) (drop_more ps i x c.loop-part-test.true ∙ ap (λ y. y ∷ drop (i + 1) ps) (sym c.part-item.is))
    ∙ list_any-append t (listed_in (drop (i + 1) ps)) (reverse x.value) ∙ ap (λ b. list_any t (listed_in (drop (i + 1) ps)) || b) none ∙ or_false (list_any t (listed_in (drop (i + 1) ps))))
