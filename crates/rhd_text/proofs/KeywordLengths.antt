-- A keyword is found among those that are spelled with as many bytes.
use Rattle.std.proofs.Common.{◌≡◌, ℕ, Bool, true, false, cond, List, [], ◌∷◌, length, nat_eq, Some, None, refl, sym, ap, eq-eqb, true≢false, ◌∙◌}
use Rattle.std.specs.Prelude.{Option, if◌then◌else◌}
use Rattle.std.specs.Str.{bytes_eq}
use Rattle.std.proofs.lemmas.Slice.Eq.{bytes_eq-Decides}
use Rattle.rhd_text.specs.Rows.{Form}
use Rattle.rhd_text.specs.ReadRows.{keyword_in, of_length}

module _ {K P : Type 0} (form : K → Form P) (word : List ℕ) where
  step : (k : K) (ks : List K) (same long : Bool) → bytes_eq (form k).spelling word ≡ same → nat_eq (length (form k).spelling) (length word) ≡ long
      → keyword_in form (of_length form (length word) ks) word ≡ keyword_in form ks word
      → keyword_in form (cond long (k ∷ of_length form (length word) ks) (of_length form (length word) ks)) word ≡ (if same then Some k else keyword_in form ks word)
  unfolding keyword_in
  step k ks true true s l ih = ap (λ (b : Bool). if b then Some k else keyword_in form (of_length form (length word) ks) word) s
  step k ks true false s l ih =
      let equal : (form k).spelling ≡ word = (bytes_eq-Decides (form k).spelling word).0 s in
      absurd (true≢false (sym (eq-eqb (length (form k).spelling) (length word) (ap length equal)) ∙ l))
  step k ks false true s l ih = ap (λ (b : Bool). if b then Some k else keyword_in form (of_length form (length word) ks) word) s ∙ ih
  step k ks false false s l ih = ih

  pub by_length : (ks : List K) → keyword_in form (of_length form (length word) ks) word ≡ keyword_in form ks word
  unfolding keyword_in
  by_length [] = refl
  by_length (k ∷ ks) = step k ks (bytes_eq (form k).spelling word) (nat_eq (length (form k).spelling) (length word)) refl refl (by_length ks)
