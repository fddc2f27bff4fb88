-- A listed function that is a banned indexer, and the marks of listed functions.
use Rattle.std.proofs.Common.{◌≡◌, Bool, true, false, List, ◌∷◌, ◌++◌, reverse, Option, None, Some, is_some, refl, sym, ap, ◌∙◌, Bor, true≢false}
use Rattle.std.specs.List.{find}
use Rattle.std.specs.Option.{option_copied, option_or}
use Rattle.std.specs.declared.rc.Rc.{Rc}
use Rattle.std.proofs.lemmas.List.{reverse-append, reverse-reverse}
use Rattle.std.proofs.lemmas.List.Folds.{find-append}
use Rattle.rhd_manifest.specs.Entry.{Entry}
use Rattle.rhd_manifest.specs.Listing.{listed_in}

-- One list after the other.
module _ {Z : Type 0} (t : Entry → Bool) (x : Rc (List Entry) Z) (later : List (Rc (List Entry) Z)) (o : Option (Bor Entry)) (is : option_copied o ≡ find t x.value) where
  parts : find t (reverse (listed_in (x ∷ later))) ≡ option_or (option_copied o) (find t (reverse (listed_in later)))
  parts =
      ap (find t) (reverse-append (listed_in later) (reverse x.value) ∙ ap (λ es. es ++ reverse (listed_in later)) (reverse-reverse x.value))
      ∙ find-append t x.value (reverse (listed_in later)) ∙ ap (λ (r : Option Entry). option_or r (find t (reverse (listed_in later)))) (sym is)

  pub none_here : is_some o ≡ false → find t (reverse (listed_in (x ∷ later))) ≡ find t (reverse (listed_in later))
  none_here none = parts ∙ by o none
    where
      by : (r : Option (Bor Entry)) → is_some r ≡ false → option_or (option_copied r) (find t (reverse (listed_in later))) ≡ find t (reverse (listed_in later))
      by None e = refl
      by (Some b) e = absurd (true≢false e)

  pub some_here : is_some o ≡ true → option_copied o ≡ find t (reverse (listed_in (x ∷ later)))
  some_here some = sym (parts ∙ by o some)
    where
      by : (r : Option (Bor Entry)) → is_some r ≡ true → option_or (option_copied r) (find t (reverse (listed_in later))) ≡ option_copied r
      by None e = absurd (true≢false (sym e))
      by (Some b) e = refl
