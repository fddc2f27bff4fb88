-- A listed function that is a banned indexer, and the marks of listed functions.
use Rattle.std.proofs.Common.{◌≡◌, ℕ, ◌||◌, Bool, true, false, List, [], ◌∷◌, ◌++◌, reverse, refl, sym, ap, ◌∙◌}
use Rattle.std.specs.declared.rc.Rc.{Rc}
use Rattle.std.proofs.lemmas.List.Folds.{list_any-append}
use Rattle.rhd_hash.specs.declared.mixer.Seeds.{Seeds}
use Rattle.rhd_manifest.specs.Entry.{Entry}
use Rattle.rhd_manifest.specs.Listing.{listed_in}
use Rattle.rhd_manifest.proofs.Firsts.{any_reverse, listed_last}
use Rattle.rhd_table.specs.Marks.{lists_dynamic}

or_around : (a b c : Bool) → ((a || b) || c) ≡ (a || (c || b))
or_around true b c = refl
or_around false true true = refl
or_around false true false = refl
or_around false false true = refl
or_around false false false = refl

-- the marks of one list more
pub marks_last : {Z : Type 0} (seeds : Seeds) (v : ℕ) (xs : List (Rc (List Entry) Z)) (x : Rc (List Entry) Z) (old mid new : Bool) → mid ≡ (old || lists_dynamic seeds v (listed_in xs)) → new ≡ (mid || lists_dynamic seeds v x.value)
    → new ≡ (old || lists_dynamic seeds v (listed_in (xs ++ x ∷ [])))
marks_last seeds v xs x old mid new m n =
    n ∙ ap (λ b. b || lists_dynamic seeds v x.value) m ∙ or_around old (lists_dynamic seeds v (listed_in xs)) (lists_dynamic seeds v x.value)
    ∙ ap (λ b. old || (b || lists_dynamic seeds v (listed_in xs))) (sym (any_reverse _ x.value)) ∙ ap (λ b. old || b) (sym (ap (lists_dynamic seeds v) (listed_last xs x) ∙ list_any-append _ (reverse x.value) (listed_in xs)))
