use Rattle.std.proofs.Common.{◌≡◌, ◌+◌, ◌∷◌, ◌++◌, [], not, true, false, take, drop, sym, ap, ◌∙◌}
use Rattle.std.proofs.lemmas.List.{take_more, drop_more, take-append-drop}
use Rattle.rhd_manifest.specs.Listing.{listed_in, is_none_of}
use Rattle.rhd_manifest.proofs.Empty.{none_of, some_list_has, no_list_has}
use Rattle.rhd_manifest.proofs.listing.no_entry.Goals as goal

pub returns-then-not-is_empty : goal.returns-then-not-is_empty
returns-then-not-is_empty c =
    let ps = c.args.parts.now in
    let i = c.loop-part.part-index in
    let x = c.part-item.result in
    let all = sym (take-append-drop i ps) ∙ ap (λ ys. take i ps ++ ys) (drop_more ps i x c.loop-part-test.true ∙ ap (λ y. y ∷ drop (i + 1) ps) (sym c.part-item.is)) in
    let some : is_none_of x.value ≡ false = ap is_none_of (sym (c.as_slice.ensures ∙ c.deref.ensures)) ∙ sym (none_of c.as_slice.result.now) ∙ sym c.is_empty.ensures ∙ c.if-not-is_empty.true in
    sym (some_list_has (take i ps) (drop (i + 1) ps) ps x all some)

pub loop-part-preserved : goal.loop-part-preserved
loop-part-preserved c =
    let ps = c.args.parts.now in
    let i = c.loop-part.part-index in
    let x = c.part-item.result in
    let next = take_more ps i x c.loop-part-test.true ∙ ap (λ y. take i ps ++ y ∷ []) (sym c.part-item.is) in
    let none : is_none_of x.value ≡ true = ap is_none_of (sym (c.as_slice.ensures ∙ c.deref.ensures)) ∙ sym (none_of c.as_slice.result.now) ∙ sym c.is_empty.ensures ∙ c.if-not-is_empty.false in
    ap (λ xs. is_none_of (listed_in xs)) next ∙ no_list_has (take i ps) x c.loop-part.invariant none
