-- Calls on each of two lists one after the other, and the first that a test passes in two lists.
use Rattle.std.proofs.Common.{◌≡◌, Bool, true, false, List, [], ◌∷◌, ◌++◌, Option, is_some, sym, ap, subst, ◌∙◌, inl, inr, true≢false}
use Rattle.std.specs.List.{FoldsTo}
use Rattle.rhd_manifest.specs.Entry.{Entry}
use Rattle.rhd_manifest.specs.Meets.{IsFirstThatMeets}

pub folds_append : {P A : Type 0} (R : P → A → P → Type 0) (p q r : P) (xs ys : List A) → FoldsTo R p xs q → FoldsTo R q ys r → FoldsTo R p (xs ++ ys) r
folds_append R p q r [] ys h k = let S : _ → Type 0 = λ s. FoldsTo R s ys r in subst S (sym h) k
folds_append R p q r (x ∷ xs) ys h k = (h.0, h.1, folds_append R h.0 q r xs ys h.2 k)

-- what the first list has is found
pub meets_found : (answers : Entry → Bool → Type 0) (xs ys : List Entry) (o : Option Entry) → is_some o ≡ true → IsFirstThatMeets answers xs o → IsFirstThatMeets answers (xs ++ ys) o
meets_found answers [] ys o s h = absurd (true≢false (sym s ∙ ap is_some h))
meets_found answers (x ∷ xs) ys o s (inl h) = inl h
meets_found answers (x ∷ xs) ys o s (inr h) = inr (h.0, meets_found answers xs ys o s h.1)

-- where it has nothing, what the second has is found
pub meets_past : (answers : Entry → Bool → Type 0) (xs ys : List Entry) (o found : Option Entry) → is_some o ≡ false → IsFirstThatMeets answers xs o → IsFirstThatMeets answers ys found → IsFirstThatMeets answers (xs ++ ys) found
meets_past answers [] ys o found s h k = k
meets_past answers (x ∷ xs) ys o found s (inl h) k = absurd (true≢false (sym (ap is_some h.1) ∙ s))
meets_past answers (x ∷ xs) ys o found s (inr h) k = inr (h.0, meets_past answers xs ys o found s h.1 k)
