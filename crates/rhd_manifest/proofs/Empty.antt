-- Lists of listed functions that have none.
use Rattle.std.proofs.Common.{◌≡◌, ℕ, suc, ◌+◌, ◌<◌, ◌==◌, eqb-true, Bool, true, false, List, [], ◌∷◌, ◌++◌, length, reverse, refl, sym, ap, ◌∙◌, true≢false, arith}
use Rattle.std.specs.declared.rc.Rc.{Rc}
use Rattle.std.proofs.lemmas.List.{length-append, length-reverse}
use Rattle.rhd_manifest.specs.Entry.{Entry}
use Rattle.rhd_manifest.specs.Listing.{listed_in, is_none_of}
use Rattle.rhd_manifest.proofs.Firsts.{listed_append, listed_last}

has_some : (es : List Entry) → is_none_of es ≡ false → 0 < length es
has_some [] e = absurd (true≢false e)
has_some (x ∷ es) e = omega arith

none_not : (es : List Entry) → 0 < length es → is_none_of es ≡ false
none_not [] h = absurd (omega (arith, h))
none_not (x ∷ es) h = refl

pub no_entries : (es : List Entry) → is_none_of es ≡ true → es ≡ []
no_entries [] e = refl
no_entries (x ∷ es) e = absurd (true≢false (sym e))

pub not_zero : (n : ℕ) (b : Bool) → (suc n == 0) ≡ b → b ≡ false
not_zero n true e = absurd (omega (arith, eqb-true (suc n) 0 e))
not_zero n false e = refl

pub none_of : {A : Type 0} (xs : List A) → (length xs == 0) ≡ is_none_of xs
none_of [] = refl
none_of (x ∷ xs) = not_zero (length xs) (length (x ∷ xs) == 0) refl

-- a list that has something, among others
pub some_list_has : {Z : Type 0} (front later all : List (Rc (List Entry) Z)) (x : Rc (List Entry) Z) → all ≡ front ++ x ∷ later → is_none_of x.value ≡ false → is_none_of (listed_in all) ≡ false
some_list_has front later all x is e =
    let parts : listed_in all ≡ (listed_in later ++ reverse x.value) ++ listed_in front = ap listed_in is ∙ listed_append front (x ∷ later) in
    let long = has_some x.value e in
    let size : length ((listed_in later ++ reverse x.value) ++ listed_in front) ≡ (length (listed_in later) + length x.value) + length (listed_in front) =
    length-append (listed_in later ++ reverse x.value) (listed_in front) ∙ ap (λ n. n + length (listed_in front)) (length-append (listed_in later) (reverse x.value) ∙ ap (λ n. length (listed_in later) + n) (length-reverse x.value)) in
    ap is_none_of parts ∙ none_not ((listed_in later ++ reverse x.value) ++ listed_in front) (omega (arith, long, size))

-- lists that have nothing, and one more
pub no_list_has : {Z : Type 0} (front : List (Rc (List Entry) Z)) (x : Rc (List Entry) Z) → is_none_of (listed_in front) ≡ true → is_none_of x.value ≡ true → is_none_of (listed_in (front ++ x ∷ [])) ≡ true
no_list_has front x e n = ap is_none_of (listed_last front x ∙ ap (λ es. reverse es ++ listed_in front) (no_entries x.value n)) ∙ e
