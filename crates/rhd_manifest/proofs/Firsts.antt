-- Tests of some entries, and the first entry under each key.
use Rattle.std.proofs.Common.{◌≡◌, ℕ, zero, suc, ◌+◌, ◌<◌, ◌≤◌, ◌||◌, Bool, true, false, not, cond, map, List, [], ◌∷◌, ◌++◌, reverse, length, drop, Some, is_some, refl, sym, ap, ◌∙◌, arith, slice_get, true≢false, append-nil, append_assoc, get_or}
use Rattle.std.proofs.lemmas.List.{reverse-append, drop_more}
use Rattle.std.proofs.lemmas.List.Folds.{list_any-append}
use Rattle.std.proofs.lemmas.List.Elements.{filter-append}
use Rattle.std.specs.List.{find, filter, list_any}
use Rattle.std.specs.declared.rc.Rc.{Rc}
use Rattle.rhd_hash.specs.declared.key.Key.{Key}
use Rattle.rhd_hash.specs.Keys.{key_eq}
use Rattle.rhd_manifest.specs.Entry.{Entry, entry_key}
use Rattle.rhd_manifest.specs.Listing.{listed_in}
use Rattle.rhd_manifest.specs.Rank.{firsts}

module _ {X : Type 0} (t : X → Bool) where
  pub any_found : (xs : List X) → is_some (find t xs) ≡ list_any t xs
  any_found [] = refl
  any_found (x ∷ xs) = by (t x) (any_found xs)
    where
      by : (b : Bool) → is_some (find t xs) ≡ list_any t xs → is_some (cond b (Some x) (find t xs)) ≡ (b || list_any t xs)
      by true ih = refl
      by false ih = ih

  or_last : (a b : Bool) → (a || (b || false)) ≡ (b || a)
  or_last true true = refl
  or_last true false = refl
  or_last false true = refl
  or_last false false = refl

  -- the order doesn't matter
  pub any_reverse : (xs : List X) → list_any t (reverse xs) ≡ list_any t xs
  any_reverse [] = refl
  any_reverse (x ∷ xs) =
      ap (list_any t) (reverse-append (x ∷ []) xs) ∙ list_any-append t (reverse xs) (x ∷ []) ∙ or_last (list_any t (reverse xs)) (t x) ∙ ap (λ b. t x || b) (any_reverse xs)

  pub any_drop : (n : ℕ) (xs : List X) → list_any t xs ≡ false → list_any t (drop n xs) ≡ false
  any_drop zero xs h = h
  any_drop (suc n) [] h = refl
  any_drop (suc n) (x ∷ xs) h = any_drop n xs (by (t x) h)
    where
      by : (b : Bool) → (b || list_any t xs) ≡ false → list_any t xs ≡ false
      by true h = absurd (true≢false h)
      by false h = h

  -- behind a later place there is nothing where there is nothing behind an earlier one
  pub any_further : (m n : ℕ) (xs : List X) → m ≤ n → list_any t (drop m xs) ≡ false → list_any t (drop n xs) ≡ false
  any_further zero n xs h none = any_drop n xs none
  any_further (suc m) zero xs h none = absurd (omega (arith, h))
  any_further (suc m) (suc n) [] h none = refl
  any_further (suc m) (suc n) (x ∷ xs) h none = any_further m n xs (omega (arith, h)) none

  pub any_at : (n i : ℕ) (x : X) (xs : List X) → slice_get xs i ≡ Some x → t x ≡ true → n ≤ i → list_any t (drop n xs) ≡ true
  any_at zero zero x [] s h l = absurd (cc)
  any_at zero zero x (y ∷ xs) s h l = let same : y ≡ x = cc in ap (λ b. b || list_any t xs) (ap t same ∙ h)
  any_at zero (suc i) x [] s h l = absurd (cc)
  any_at zero (suc i) x (y ∷ xs) s h l = ap (λ b. t y || b) (any_at zero i x xs s h (omega arith)) ∙ or_true (t y)
    where
      or_true : (a : Bool) → (a || true) ≡ true
      or_true true = refl
      or_true false = refl
  any_at (suc n) zero x xs s h l = absurd (omega (arith, l))
  any_at (suc n) (suc i) x [] s h l = absurd (cc)
  any_at (suc n) (suc i) x (y ∷ xs) s h l = any_at n i x xs s h (omega (arith, l))

  -- a test that passes less
  pub any_less : (s : X → Bool) → ((x : X) → t x ≡ true → s x ≡ true) → (xs : List X) → list_any s xs ≡ false → list_any t xs ≡ false
  any_less s h [] none = refl
  any_less s h (x ∷ xs) none = by (t x) (s x) (h x) (any_less s h xs) none
    where
      by : (a b : Bool) → (a ≡ true → b ≡ true) → (list_any s xs ≡ false → list_any t xs ≡ false) → (b || list_any s xs) ≡ false → (a || list_any t xs) ≡ false
      by true true h ih none = absurd (true≢false none)
      by true false h ih none = absurd (true≢false (sym (h refl)))
      by false true h ih none = absurd (true≢false none)
      by false false h ih none = ih none

-- whether an entry is under a key
abbrev pub under : Key → Entry → Bool
under key e = key_eq key (entry_key e)

-- one more entry behind all is a first one where none before is under its key
pub firsts_last : (es : List Entry) (e : Entry) → firsts (es ++ e ∷ []) ≡ firsts es ++ cond (list_any (under (entry_key e)) es) [] (e ∷ [])
firsts_last [] e = refl
firsts_last (x ∷ es) e =
    ap (λ t. x ∷ filter other t) (firsts_last es e) ∙ ap (λ t. x ∷ t) (filter-append other (firsts es) (cond (list_any (under (entry_key e)) es) [] (e ∷ [])))
    ∙ ap (λ t. x ∷ (filter other (firsts es) ++ t)) (by (list_any (under (entry_key e)) es) (key_eq (entry_key e) (entry_key x)) refl)
  where
    other : Entry → Bool
    other d = not (key_eq (entry_key d) (entry_key x))

    by : (a k : Bool) → key_eq (entry_key e) (entry_key x) ≡ k → filter other (cond a [] (e ∷ [])) ≡ cond (k || a) [] (e ∷ [])
    by true true h = refl
    by true false h = refl
    by false true h = ap (λ b. cond (not b) (e ∷ []) []) h
    by false false h = ap (λ b. cond (not b) (e ∷ []) []) h

-- more lists stand above
pub listed_append : {Z : Type 0} (xs ys : List (Rc (List Entry) Z)) → listed_in (xs ++ ys) ≡ listed_in ys ++ listed_in xs
listed_append [] ys = sym (append-nil (listed_in ys))
listed_append (x ∷ xs) ys = ap (λ t. t ++ reverse x.value) (listed_append xs ys) ∙ append_assoc (listed_in ys) (listed_in xs) (reverse x.value)

pub listed_last : {Z : Type 0} (xs : List (Rc (List Entry) Z)) (x : Rc (List Entry) Z) → listed_in (xs ++ x ∷ []) ≡ reverse x.value ++ listed_in xs
listed_last xs x = listed_append xs (x ∷ [])

-- The entries of one list from the last down, behind those above.
pub first_step : (above part : List Entry) (i j : ℕ) (e : Entry) → j ≡ i + 1 → i < length part → e ≡ get_or part i e
    → firsts (above ++ reverse (drop i part)) ≡ firsts (above ++ reverse (drop j part)) ++ cond (list_any (under (entry_key e)) (above ++ reverse (drop j part))) [] (e ∷ [])
first_step above part i j e next within is =
    ap firsts (ap (λ es. above ++ reverse es) (drop_more part i e within ∙ (λ k. sym is k ∷ drop (sym next k) part)) ∙ ap (λ es. above ++ es) (reverse-append (e ∷ []) (drop j part)) ∙ sym (append_assoc above (reverse (drop j part)) (e ∷ [])))
    ∙ firsts_last (above ++ reverse (drop j part)) e

pub hidden_by : (above part : List Entry) (i j : ℕ) (e : Entry) (key : Key) → j ≡ i + 1 → key ≡ entry_key e
    → list_any (under (entry_key e)) (above ++ reverse (drop j part)) ≡ list_any (under key) (above ++ reverse (drop (i + 1) part))
hidden_by above part i j e key next is = λ k. list_any (under (sym is k)) (above ++ reverse (drop (next k) part))

pub map_last : {A B : Type 0} (f : A → B) (xs : List A) (x : A) → map f (xs ++ x ∷ []) ≡ map f xs ++ f x ∷ []
map_last f [] x = refl
map_last f (y ∷ xs) x = ap (λ t. f y ∷ t) (map_last f xs x)

pub not_true : (b : Bool) → not b ≡ true → b ≡ false
not_true true h = absurd (true≢false (sym h))
not_true false h = refl

-- Whether one is hidden, by those of its own list and those above.
module _ {X : Type 0} (t : X → Bool) (above others : List X) (own : Bool) (is : own ≡ list_any t others) where
  parts : list_any t (above ++ reverse others) ≡ (list_any t above || own)
  parts = list_any-append t above (reverse others) ∙ ap (λ b. list_any t above || b) (any_reverse t others ∙ sym is)

  pub hidden_there : own ≡ true → own ≡ list_any t (above ++ reverse others)
  hidden_there h = h ∙ sym (parts ∙ ap (λ b. list_any t above || b) h ∙ or_true (list_any t above))
    where
      or_true : (a : Bool) → (a || true) ≡ true
      or_true true = refl
      or_true false = refl

  pub hidden_above : own ≡ false → (b : Bool) → b ≡ list_any t above → b ≡ list_any t (above ++ reverse others)
  hidden_above h b e = e ∙ sym (parts ∙ ap (λ b. list_any t above || b) h ∙ or_false (list_any t above))
    where
      or_false : (a : Bool) → (a || false) ≡ a
      or_false true = refl
      or_false false = refl
