-- The places under the hashes of keys, after one more entry.
use Rattle.std.proofs.Common.{◌≡◌, ℕ, zero, suc, ◌+◌, ◌<◌, ◌≤◌, ◌||◌, drop, Bool, true, false, cond, List, [], ◌∷◌, ◌++◌, reverse, length, Option, None, Some, is_none, is_some, take, refl, sym, ap, ◌∙◌, arith, slice_get, nat_eq, nat_lt, true≢false, eqb-true, eq-eqb}
use Rattle.std.proofs.lemmas.List.{reverse-append, length-append}
use Rattle.std.proofs.Math.Seq.{take-append_seam}
use Rattle.std.proofs.lemmas.Bool.{cond-true, cond-false, ltb-true}
use Rattle.std.proofs.lemmas.List.Folds.{list_any-append}
use Rattle.std.specs.List.{list_any}
use Rattle.std.specs.Option.{option_and_then, option_to_list, IsSome}
use Rattle.rhd_hash.specs.declared.key.Key.{Key}
use Rattle.rhd_hash.specs.declared.key.Key.TheVariants.{Script, Typed, Native}
use Rattle.rhd_hash.specs.Keys.{key_eq, key_eq-Decides, is_script_key}
use Rattle.rhd_value.specs.Firsts.{where_holds}
use Rattle.rhd_manifest.specs.Entry.{Entry, entry_key}
use Rattle.rhd_manifest.specs.Rank.{find_entry}
use Rattle.rhd_manifest.proofs.Firsts.{under, any_found, any_reverse, any_drop, any_further, any_at, any_less}
use Rattle.rhd_manifest.specs.Index.{IsIndex, index_hash, entry_at, has_other}

slice_before : {A : Type 0} (xs : List A) (x : A) (i : ℕ) → i < length xs → slice_get (xs ++ x ∷ []) i ≡ slice_get xs i
slice_before [] x i h = absurd (omega (arith, h))
slice_before (y ∷ xs) x zero h = refl
slice_before (y ∷ xs) x (suc i) h = slice_before xs x i (omega (arith, h))

slice_new : {A : Type 0} (xs : List A) (x : A) → slice_get (xs ++ x ∷ []) (length xs) ≡ Some x
slice_new [] x = refl
slice_new (y ∷ xs) x = slice_new xs x

drop_past : {A : Type 0} (xs : List A) (x : A) → drop (suc (length xs)) (xs ++ x ∷ []) ≡ []
drop_past [] x = refl
drop_past (y ∷ xs) x = drop_past xs x

drop_before : {A : Type 0} (xs : List A) (x : A) (n : ℕ) → n ≤ length xs → drop n (xs ++ x ∷ []) ≡ drop n xs ++ x ∷ []
drop_before xs x zero h = refl
drop_before [] x (suc n) h = absurd (omega (arith, h))
drop_before (y ∷ xs) x (suc n) h = drop_before xs x n (omega (arith, h))

find_more : (key : Key) (es : List Entry) (e : Entry) → find_entry key (reverse (es ++ e ∷ [])) ≡ cond (key_eq key (entry_key e)) (Some e) (find_entry key (reverse es))
find_more key es e = ap (find_entry key) (reverse-append es (e ∷ []))

module _ (places : ℕ → Option ℕ) (clashes : Bool) (es : List Entry) (index : IsIndex places clashes es) (e : Entry) where
  -- where no other key stands under the hash, a key that isn't the entry's finds nothing there
  none_other : clashes ≡ false → (q : Key) → key_eq q (entry_key e) ≡ false → index_hash q ≡ index_hash (entry_key e) → has_other (entry_key e) es (places (index_hash (entry_key e))) ≡ false
      → find_entry q (reverse es) ≡ None
  none_other none q differs same free =
      index.finds none q ∙ ap (λ h. entry_at q es (places h)) same ∙ at_place (places (index_hash (entry_key e))) free
    where
      not_here : (o : Option Entry) → is_none (option_and_then (λ d. where_holds (key_eq (entry_key e) (entry_key d)) d) o) ≡ false → option_and_then (λ d. where_holds (key_eq q (entry_key d)) d) o ≡ None
      not_here None h = refl
      not_here (Some d) h = by (key_eq (entry_key e) (entry_key d)) (key_eq q (entry_key d)) refl refl h
        where
          by : (a b : Bool) → key_eq (entry_key e) (entry_key d) ≡ a → key_eq q (entry_key d) ≡ b → is_none (cond a (Some d) None) ≡ false → cond b (Some d) None ≡ None
          by false b ea eb h = absurd (true≢false h)
          by true false ea eb h = refl
          by true true ea eb h =
              let one : q ≡ entry_key e = (key_eq-Decides q (entry_key d)).0 eb ∙ sym ((key_eq-Decides (entry_key e) (entry_key d)).0 ea) in
              absurd (true≢false (sym ((key_eq-Decides q (entry_key e)).1 one) ∙ differs))

      at_place : (o : Option ℕ) → has_other (entry_key e) es o ≡ false → entry_at q es o ≡ None
      at_place None h = refl
      at_place (Some i) h = not_here (slice_get es i) h

  before : (q : Key) (o : Option ℕ) → ((i : ℕ) → o ≡ Some i → i < length es) → entry_at q (es ++ e ∷ []) o ≡ entry_at q es o
  before q None h = refl
  before q (Some i) h = ap (λ o. option_and_then (λ d. where_holds (key_eq q (entry_key d)) d) o) (slice_before es e i (h i refl))

  abbrev hash_of : ℕ
  hash_of = index_hash (entry_key e)

  module _ (news : ℕ → Option ℕ) (after : Bool) (puts : (h : ℕ) → news h ≡ cond (nat_eq hash_of h) (Some (length es)) (places h)) (notes : after ≡ clashes || has_other (entry_key e) es (places hash_of)) where
    within : (hash place : ℕ) → news hash ≡ Some place → place < length (es ++ e ∷ [])
    within hash place at = by (nat_eq (index_hash (entry_key e)) hash) (sym (puts hash) ∙ at)
      where
        more : length (es ++ e ∷ []) ≡ length es + 1
        more = length-append es (e ∷ [])

        by : (b : Bool) → cond b (Some (length es)) (places hash) ≡ Some place → place < length (es ++ e ∷ [])
        by true h = let s : length es ≡ place = cc in omega (arith, s, more)
        by false h = omega (arith, index.within hash place h, more)

    last : (hash place : ℕ) → news hash ≡ Some place → list_any (λ d. nat_eq (index_hash (entry_key d)) hash) (drop (suc place) (es ++ e ∷ [])) ≡ false
    last hash place at = by (nat_eq (index_hash (entry_key e)) hash) refl (sym (puts hash) ∙ at)
      where
        t : Entry → Bool
        t d = nat_eq (index_hash (entry_key d)) hash

        by : (b : Bool) → nat_eq (index_hash (entry_key e)) hash ≡ b → cond b (Some (length es)) (places hash) ≡ Some place → list_any t (drop (suc place) (es ++ e ∷ [])) ≡ false
        by true eb h = let s : length es ≡ place = cc in ap (list_any t) (ap (λ n. drop (suc n) (es ++ e ∷ [])) (sym s) ∙ drop_past es e)
        by false eb h =
            ap (list_any t) (drop_before es e (suc place) (omega (arith, index.within hash place h))) ∙ list_any-append t (drop (suc place) es) (e ∷ [])
            ∙ (λ i. index.last hash place h i || (eb i || false))

    neither : (a b : Bool) → (a || b) ≡ false → (a ≡ false) × (b ≡ false)
    neither true b h = absurd (true≢false h)
    neither false b h = (refl, h)

    finds : after ≡ false → (q : Key) → find_entry q (reverse (es ++ e ∷ [])) ≡ entry_at q (es ++ e ∷ []) (news (index_hash q))
    finds none q = find_more q es e ∙ by (nat_eq (index_hash (entry_key e)) (index_hash q)) refl (key_eq q (entry_key e)) refl
      where
        free : (clashes ≡ false) × (has_other (entry_key e) es (places (index_hash (entry_key e))) ≡ false)
        free = neither clashes (has_other (entry_key e) es (places (index_hash (entry_key e)))) (sym notes ∙ none)

        here : (b : Bool) → key_eq q (entry_key e) ≡ b → cond b (Some e) None ≡ entry_at q (es ++ e ∷ []) (Some (length es))
        here b eb = sym (ap (λ o. option_and_then (λ d. where_holds (key_eq q (entry_key d)) d) o) (slice_new es e) ∙ ap (λ t. cond t (Some e) None) eb)

        by : (a : Bool) → nat_eq (index_hash (entry_key e)) (index_hash q) ≡ a → (b : Bool) → key_eq q (entry_key e) ≡ b → cond (key_eq q (entry_key e)) (Some e) (find_entry q (reverse es)) ≡ entry_at q (es ++ e ∷ []) (news (index_hash q))
        by true ea true eb =
            cond-true (key_eq q (entry_key e)) (Some e) (find_entry q (reverse es)) eb ∙ here true eb
            ∙ ap (entry_at q (es ++ e ∷ [])) (sym (puts (index_hash q) ∙ cond-true (nat_eq (index_hash (entry_key e)) (index_hash q)) (Some (length es)) (places (index_hash q)) ea))
        by true ea false eb =
            cond-false (key_eq q (entry_key e)) (Some e) (find_entry q (reverse es)) eb
            ∙ none_other free.0 q eb (sym (eqb-true (index_hash (entry_key e)) (index_hash q) ea)) free.1 ∙ here false eb
            ∙ ap (entry_at q (es ++ e ∷ [])) (sym (puts (index_hash q) ∙ cond-true (nat_eq (index_hash (entry_key e)) (index_hash q)) (Some (length es)) (places (index_hash q)) ea))
        by false ea true eb = absurd (true≢false (sym (same_hash eb) ∙ ea))
          where
            same_hash : key_eq q (entry_key e) ≡ true → nat_eq (index_hash (entry_key e)) (index_hash q) ≡ true
            same_hash eb = eq-eqb (index_hash (entry_key e)) (index_hash q) (ap index_hash (sym ((key_eq-Decides q (entry_key e)).0 eb)))
        by false ea false eb =
            cond-false (key_eq q (entry_key e)) (Some e) (find_entry q (reverse es)) eb
            ∙ index.finds free.0 q
            ∙ sym (before q (places (index_hash q)) (index.within (index_hash q)))
            ∙ ap (entry_at q (es ++ e ∷ [])) (sym (puts (index_hash q) ∙ cond-false (nat_eq (index_hash (entry_key e)) (index_hash q)) (Some (length es)) (places (index_hash q)) ea))

    -- the places with the new one are the index of the entries with the new one
    pub index_push : IsIndex news after (es ++ e ∷ [])
    index_push = record { within = within; last = last; finds = finds }

pub not_less : (m n : ℕ) → n ≤ m → nat_lt m n ≡ false
not_less m n h = by (nat_lt m n) refl
  where
    by : (b : Bool) → nat_lt m n ≡ b → b ≡ false
    by true e = absurd (omega (arith, h, ltb-true m n e))
    by false e = refl

-- Whether a key has an entry behind a place, by the place of the last one under its hash.
module _ (places : ℕ → Option ℕ) (clashes : Bool) (es : List Entry) (index : IsIndex places clashes es) (none : clashes ≡ false) (key : Key) (hash place : ℕ) (is_hash : hash ≡ index_hash key) where
  none_of : entry_at key es (places (index_hash key)) ≡ None → list_any (under key) es ≡ false
  none_of e = sym (any_reverse (under key) es) ∙ sym (any_found (under key) (reverse es)) ∙ ap is_some (index.finds none key ∙ e)

  at_it : places (index_hash key) ≡ places hash
  at_it = ap places (sym is_hash)

  pub behind_nothing : places hash ≡ None → list_any (under key) (drop (suc place) es) ≡ false
  behind_nothing e = any_drop (under key) (suc place) es (none_of (ap (entry_at key es) (at_it ∙ e)))

  pub behind_last : (last : ℕ) → places hash ≡ Some last → last ≤ place → list_any (under key) (drop (suc place) es) ≡ false
  behind_last last e l =
      any_further (under key) (suc last) (suc place) es (omega (arith, l))
      (any_less (under key) (λ d. nat_eq (index_hash (entry_key d)) hash) (λ d h. eq-eqb (index_hash (entry_key d)) hash (ap index_hash (sym ((key_eq-Decides key (entry_key d)).0 h)) ∙ sym is_hash))
      (drop (suc last) es) (index.last hash last e))

  pub before_last : (last : ℕ) → places hash ≡ Some last → place < last → is_some (entry_at key es (Some last)) ≡ list_any (under key) (drop (suc place) es)
  before_last last e l = by_entry (slice_get es last) refl
    where
      at_last : (o : Option Entry) → slice_get es last ≡ o → entry_at key es (places (index_hash key)) ≡ option_and_then (λ d. where_holds (key_eq key (entry_key d)) d) o
      at_last o s = ap (entry_at key es) (at_it ∙ e) ∙ ap (λ k. option_and_then (λ d. where_holds (key_eq key (entry_key d)) d) k) s

      by_key : (d : Entry) → slice_get es last ≡ Some d → (b : Bool) → key_eq key (entry_key d) ≡ b → is_some (where_holds b d) ≡ list_any (under key) (drop (suc place) es)
      by_key d s true h = sym (any_at (under key) (suc place) last d es s h (omega (arith, l)))
      by_key d s false h = sym (any_drop (under key) (suc place) es (none_of (at_last (Some d) s ∙ ap (λ b. where_holds b d) h)))

      by_entry : (o : Option Entry) → slice_get es last ≡ o → is_some (option_and_then (λ d. where_holds (key_eq key (entry_key d)) d) o) ≡ list_any (under key) (drop (suc place) es)
      by_entry None s = sym (any_drop (under key) (suc place) es (none_of (at_last None s)))
      by_entry (Some d) s = by_key d s (key_eq key (entry_key d)) refl

-- the key of a script finds no entry
pub no_script : (key : Key) (es : List Entry) → is_script_key key ≡ true → find_entry key es ≡ None
no_script (Script path name params) [] h = refl
no_script (Script path name params) (e ∷ es) h = no_script (Script path name params) es h
no_script (Typed path name params this_type) [] h = refl
no_script (Typed path name params this_type) (e ∷ es) h = no_script (Typed path name params this_type) es h
no_script (Native path name types) es h = absurd (true≢false (sym h))

-- what a pop leaves after a push
pub popped : {A : Type 0} (es all news : List A) (e : A) (r : Option A) → all ≡ es ++ e ∷ [] → all ≡ news ++ option_to_list r → IsSome r → news ≡ es
popped es all news e None p q h = absurd (cc)
popped es all news e (Some x) p q h =
    let n : length news ≡ length es = omega (arith, ap length p, ap length q, length-append es (e ∷ []), length-append news (x ∷ [])) in
    sym (take-append_seam news (x ∷ [])) ∙ (λ i. take (n i) ((sym q ∙ p) i)) ∙ take-append_seam es (e ∷ [])
