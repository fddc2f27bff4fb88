-- What a module shows beside its declarations: what is listed, the first under each key.
use Rattle.std.proofs.Common.{◌≡◌, ℕ, Bool, true, false, ◌||◌, ◌&&◌, not, cond, List, [], ◌∷◌, ◌++◌, map, Option, None, Some, is_some, is_none, refl, sym, ap, ◌∙◌, true≢false, Bor}
use Rattle.std.specs.List.{list_any, filter}
use Rattle.std.specs.Map.{lookup}
use Rattle.std.specs.Option.{option_map, option_or, option_copied}
use Rattle.std.proofs.lemmas.Bool.{or_parts}
use Rattle.std.proofs.lemmas.List.Folds.{list_any-append}
use Rattle.rhd_hash.specs.declared.key.Key.{Key}
use Rattle.rhd_hash.specs.declared.mixer.Seeds.{Seeds}
use Rattle.rhd_hash.specs.Keys.{key_eq, key_eq-Decides, is_script_key}
use Rattle.rhd_decl.specs.declared.declaration.Declaration.{Declaration}
use Rattle.rhd_manifest.specs.Entry.{Entry, entry_key, entry_decl, entry_pair}
use Rattle.rhd_manifest.specs.Listing.{is_none_of}
use Rattle.rhd_manifest.specs.Rank.{find_entry, firsts}
use Rattle.rhd_manifest.proofs.Places.{no_script}
use Rattle.rhd_table.specs.Marks.{may_be_dynamic, lists_dynamic}
use Rattle.rhd_table.specs.Pairs.{Pairs, without}
use Rattle.rhd_module.specs.Shown.{shown_of}

pub twice : (b : Bool) → not (not b) ≡ b
twice true = refl
twice false = refl

same_key : (k q : Key) → key_eq k q ≡ true → k ≡ q
same_key k q e = (key_eq-Decides k q).0 e

pub lookup_append : (t : Key → Bool) (xs ys : Pairs) → lookup t (xs ++ ys) ≡ option_or (lookup t xs) (lookup t ys)
lookup_append t [] ys = refl
lookup_append t (x ∷ xs) ys = by (t x.0) (lookup_append t xs ys)
  where
    by : (b : Bool) → lookup t (xs ++ ys) ≡ option_or (lookup t xs) (lookup t ys) → cond b (Some x.1) (lookup t (xs ++ ys)) ≡ option_or (cond b (Some x.1) (lookup t xs)) (lookup t ys)
    by true ih = refl
    by false ih = ih

-- a key that others don't have is found as before
pub without_free : (others : Pairs) (k : Key) → lookup (key_eq k) others ≡ None → (ps : Pairs) → lookup (key_eq k) (without others ps) ≡ lookup (key_eq k) ps
without_free others k free [] = refl
without_free others k free (p ∷ ps) = by (key_eq k p.0) refl (is_none (lookup (key_eq p.0) others)) refl (without_free others k free ps)
  where
    by : (same : Bool) → key_eq k p.0 ≡ same → (kept : Bool) → is_none (lookup (key_eq p.0) others) ≡ kept → lookup (key_eq k) (without others ps) ≡ lookup (key_eq k) ps
        → lookup (key_eq k) (cond kept (p ∷ without others ps) (without others ps)) ≡ cond same (Some p.1) (lookup (key_eq k) ps)
    by true s true h ih = ap (λ b. cond b (Some p.1) (lookup (key_eq k) (without others ps))) s
    by true s false h ih = absurd (true≢false (sym (ap is_none (sym (ap (λ q. lookup (key_eq q) others) (same_key k p.0 s)) ∙ free)) ∙ h))
    by false s true h ih = ap (λ b. cond b (Some p.1) (lookup (key_eq k) (without others ps))) s ∙ ih
    by false s false h ih = ih

-- without what is under another key, a key is found as before
other_free : (k : Key) (e : Entry) (es : List Entry) → key_eq k (entry_key e) ≡ false → find_entry k (filter (λ d. not (key_eq (entry_key d) (entry_key e))) es) ≡ find_entry k es
other_free k e [] h = refl
other_free k e (d ∷ es) h = by (key_eq k (entry_key d)) refl (key_eq (entry_key d) (entry_key e)) refl (other_free k e es h)
  where
    others : List Entry
    others = filter (λ d. not (key_eq (entry_key d) (entry_key e))) es

    by : (same : Bool) → key_eq k (entry_key d) ≡ same → (gone : Bool) → key_eq (entry_key d) (entry_key e) ≡ gone → find_entry k others ≡ find_entry k es
        → find_entry k (cond (not gone) (d ∷ others) others) ≡ cond same (Some d) (find_entry k es)
    by true s true g ih = absurd (true≢false (sym (ap (λ q. key_eq q (entry_key e)) (same_key k (entry_key d) s) ∙ g) ∙ h))
    by true s false g ih = ap (λ b. cond b (Some d) (find_entry k others)) s
    by false s true g ih = ih
    by false s false g ih = ap (λ b. cond b (Some d) (find_entry k others)) s ∙ ih

-- the first under each key has the first under a key
pub find_firsts : (k : Key) (es : List Entry) → find_entry k (firsts es) ≡ find_entry k es
find_firsts k [] = refl
find_firsts k (e ∷ es) = by (key_eq k (entry_key e)) refl (find_firsts k es)
  where
    by : (same : Bool) → key_eq k (entry_key e) ≡ same → find_entry k (firsts es) ≡ find_entry k es
        → cond same (Some e) (find_entry k (filter (λ d. not (key_eq (entry_key d) (entry_key e))) (firsts es))) ≡ cond same (Some e) (find_entry k es)
    by true s ih = refl
    by false s ih = other_free k e (firsts es) s ∙ ih

pub lookup_pairs : (seeds : Seeds) (k : Key) (es : List Entry) → lookup (key_eq k) (map (entry_pair seeds) es) ≡ option_map (entry_decl seeds) (find_entry k es)
lookup_pairs seeds k [] = refl
lookup_pairs seeds k (e ∷ es) = by (key_eq k (entry_key e)) (lookup_pairs seeds k es)
  where
    by : (b : Bool) → lookup (key_eq k) (map (entry_pair seeds) es) ≡ option_map (entry_decl seeds) (find_entry k es)
        → cond b (Some (entry_decl seeds e)) (lookup (key_eq k) (map (entry_pair seeds) es)) ≡ option_map (entry_decl seeds) (cond b (Some e) (find_entry k es))
    by true ih = refl
    by false ih = ih

-- What a module has for a key: a declaration, or else what is listed.
module _ (seeds : Seeds) (eager : Pairs) (listed : List Entry) (k : Key) where
  pub shown_found : (d : Declaration) → lookup (key_eq k) eager ≡ Some d → lookup (key_eq k) (shown_of seeds eager listed) ≡ Some d
  shown_found d h = lookup_append (key_eq k) eager (without eager (map (entry_pair seeds) (firsts listed))) ∙ ap (λ o. option_or o (lookup (key_eq k) (without eager (map (entry_pair seeds) (firsts listed))))) h

  pub shown_past : lookup (key_eq k) eager ≡ None → lookup (key_eq k) (shown_of seeds eager listed) ≡ option_map (entry_decl seeds) (find_entry k listed)
  shown_past h =
      lookup_append (key_eq k) eager (without eager (map (entry_pair seeds) (firsts listed))) ∙ ap (λ o. option_or o (lookup (key_eq k) (without eager (map (entry_pair seeds) (firsts listed))))) h
      ∙ without_free eager k h (map (entry_pair seeds) (firsts listed)) ∙ lookup_pairs seeds k (firsts listed) ∙ ap (option_map (entry_decl seeds)) (find_firsts k listed)

-- The same of the functions.
module _ (seeds : Seeds) (eager : Pairs) (listed : List Entry) (k : Key) where
  pub func_found : (d : Declaration) → lookup (key_eq k) eager ≡ Some d → Some d.func ≡ option_map (λ (x : Declaration). x.func) (lookup (key_eq k) (shown_of seeds eager listed))
  func_found d h = sym (ap (option_map (λ (x : Declaration). x.func)) (shown_found seeds eager listed k d h))

  mapped_twice : (o : Option Entry) → option_map (λ e. (entry_decl seeds e).func) o ≡ option_map (λ (x : Declaration). x.func) (option_map (entry_decl seeds) o)
  mapped_twice None = refl
  mapped_twice (Some e) = refl

  pub func_past : lookup (key_eq k) eager ≡ None → option_map (λ e. (entry_decl seeds e).func) (find_entry k listed) ≡ option_map (λ (x : Declaration). x.func) (lookup (key_eq k) (shown_of seeds eager listed))
  func_past h = mapped_twice (find_entry k listed) ∙ sym (ap (option_map (λ (x : Declaration). x.func)) (shown_past seeds eager listed k h))

  pub func_none : lookup (key_eq k) eager ≡ None → is_script_key k ≡ true → None ≡ option_map (λ (x : Declaration). x.func) (lookup (key_eq k) (shown_of seeds eager listed))
  func_none h script = ap (option_map (λ e. (entry_decl seeds e).func)) (sym (no_script k listed script)) ∙ func_past h

-- What is found where a key finds alike among the declarations.
pub shown_alike : (seeds : Seeds) (eager others : Pairs) (listed : List Entry) (k : Key) → lookup (key_eq k) eager ≡ lookup (key_eq k) others → lookup (key_eq k) (shown_of seeds eager listed) ≡ lookup (key_eq k) (shown_of seeds others listed)
shown_alike seeds eager others listed k same = by (lookup (key_eq k) others) refl
  where
    by : (o : Option Declaration) → lookup (key_eq k) others ≡ o → lookup (key_eq k) (shown_of seeds eager listed) ≡ lookup (key_eq k) (shown_of seeds others listed)
    by None h = shown_past seeds eager listed k (same ∙ h) ∙ sym (shown_past seeds others listed k h)
    by (Some d) h = shown_found seeds eager listed k d (same ∙ h) ∙ sym (shown_found seeds others listed k d h)

-- Whether something is found: a declaration, or else what is listed.
some_mapped : {A B : Type 0} (f : A → B) (o : Option A) → is_some (option_map f o) ≡ is_some o
some_mapped f None = refl
some_mapped f (Some x) = refl

pub shown_some : (seeds : Seeds) (eager : Pairs) (listed : List Entry) (k : Key) → is_some (lookup (key_eq k) (shown_of seeds eager listed)) ≡ (is_some (lookup (key_eq k) eager) || is_some (find_entry k listed))
shown_some seeds eager listed k = by (lookup (key_eq k) eager) refl
  where
    by : (o : Option Declaration) → lookup (key_eq k) eager ≡ o → is_some (lookup (key_eq k) (shown_of seeds eager listed)) ≡ (is_some (lookup (key_eq k) eager) || is_some (find_entry k listed))
    by None h = ap is_some (shown_past seeds eager listed k h) ∙ some_mapped (entry_decl seeds) (find_entry k listed) ∙ sym (ap (λ o. is_some o || is_some (find_entry k listed)) h)
    by (Some d) h = ap is_some (shown_found seeds eager listed k d h) ∙ sym (ap (λ o. is_some o || is_some (find_entry k listed)) h)

-- Tests of keys.
module _ (f : Key → Bool) where
  -- a key that is there, and passes
  some_there : (k : Key) (ps : Pairs) → is_none (lookup (key_eq k) ps) ≡ false → f k ≡ true → list_any (λ p. f p.0) ps ≡ true
  some_there k [] h t = absurd (true≢false h)
  some_there k (p ∷ ps) h t = by (key_eq k p.0) refl h (some_there k ps)
    where
      or_true : (a : Bool) → (a || true) ≡ true
      or_true true = refl
      or_true false = refl

      by : (same : Bool) → key_eq k p.0 ≡ same → is_none (cond same (Some p.1) (lookup (key_eq k) ps)) ≡ false → (is_none (lookup (key_eq k) ps) ≡ false → f k ≡ true → list_any (λ p. f p.0) ps ≡ true)
          → (f p.0 || list_any (λ p. f p.0) ps) ≡ true
      by true s h ih = ap (λ b. b || list_any (λ p. f p.0) ps) (ap f (sym (same_key k p.0 s)) ∙ t)
      by false s h ih = ap (λ b. f p.0 || b) (ih h t) ∙ or_true (f p.0)

  -- what others hide passes no more than they do
  any_without : (others ps : Pairs) → (list_any (λ p. f p.0) others || list_any (λ p. f p.0) (without others ps)) ≡ (list_any (λ p. f p.0) others || list_any (λ p. f p.0) ps)
  any_without others [] = refl
  any_without others (p ∷ ps) = by (is_none (lookup (key_eq p.0) others)) refl (f p.0) refl (any_without others ps)
    where
      all : Bool
      all = list_any (λ p. f p.0) others

      swapped : (a b c : Bool) → (a || (b || c)) ≡ (b || (a || c))
      swapped true true c = refl
      swapped true false c = refl
      swapped false true c = refl
      swapped false false c = refl

      by : (kept : Bool) → is_none (lookup (key_eq p.0) others) ≡ kept → (passes : Bool) → f p.0 ≡ passes
          → (all || list_any (λ p. f p.0) (without others ps)) ≡ (all || list_any (λ p. f p.0) ps)
          → (all || list_any (λ p. f p.0) (cond kept (p ∷ without others ps) (without others ps))) ≡ (all || (passes || list_any (λ p. f p.0) ps))
      by true h passes t ih =
          ap (λ b. all || (b || list_any (λ p. f p.0) (without others ps))) t ∙ swapped all passes (list_any (λ p. f p.0) (without others ps)) ∙ ap (λ b. passes || b) ih ∙ sym (swapped all passes (list_any (λ p. f p.0) ps))
      by false h true t ih = let there : all ≡ true = some_there p.0 others h t in (λ i. there i || list_any (λ p. f p.0) (without others ps)) ∙ sym (λ i. there i || (true || list_any (λ p. f p.0) ps))
      by false h false t ih = ih

  any_pairs : (seeds : Seeds) (es : List Entry) → list_any (λ p. f p.0) (map (entry_pair seeds) es) ≡ list_any (λ e. f (entry_key e)) es
  any_pairs seeds [] = refl
  any_pairs seeds (e ∷ es) = ap (λ b. f (entry_key e) || b) (any_pairs seeds es)

  other_any : (e : Entry) (es : List Entry) → (f (entry_key e) || list_any (λ e. f (entry_key e)) (filter (λ d. not (key_eq (entry_key d) (entry_key e))) es)) ≡ (f (entry_key e) || list_any (λ e. f (entry_key e)) es)
  other_any e [] = refl
  other_any e (d ∷ es) = by (key_eq (entry_key d) (entry_key e)) refl (other_any e es)
    where
      others : List Entry
      others = filter (λ d. not (key_eq (entry_key d) (entry_key e))) es

      swapped : (a b c : Bool) → (a || (b || c)) ≡ (b || (a || c))
      swapped true true c = refl
      swapped true false c = refl
      swapped false true c = refl
      swapped false false c = refl

      again : (a c : Bool) → (a || c) ≡ (a || (a || c))
      again true c = refl
      again false c = refl

      by : (gone : Bool) → key_eq (entry_key d) (entry_key e) ≡ gone → (f (entry_key e) || list_any (λ e. f (entry_key e)) others) ≡ (f (entry_key e) || list_any (λ e. f (entry_key e)) es)
          → (f (entry_key e) || list_any (λ e. f (entry_key e)) (cond (not gone) (d ∷ others) others)) ≡ (f (entry_key e) || (f (entry_key d) || list_any (λ e. f (entry_key e)) es))
      by true g ih = ih ∙ again (f (entry_key e)) (list_any (λ e. f (entry_key e)) es) ∙ ap (λ b. f (entry_key e) || (b || list_any (λ e. f (entry_key e)) es)) (ap f (sym (same_key (entry_key d) (entry_key e) g)))
      by false g ih =
          swapped (f (entry_key e)) (f (entry_key d)) (list_any (λ e. f (entry_key e)) others) ∙ ap (λ b. f (entry_key d) || b) ih ∙ sym (swapped (f (entry_key e)) (f (entry_key d)) (list_any (λ e. f (entry_key e)) es))

  pub any_firsts : (es : List Entry) → list_any (λ e. f (entry_key e)) (firsts es) ≡ list_any (λ e. f (entry_key e)) es
  any_firsts [] = refl
  any_firsts (e ∷ es) = other_any e (firsts es) ∙ ap (λ b. f (entry_key e) || b) (any_firsts es)

  -- of what a module shows
  pub any_shown : (seeds : Seeds) (eager : Pairs) (listed : List Entry) → list_any (λ p. f p.0) (shown_of seeds eager listed) ≡ (list_any (λ p. f p.0) eager || list_any (λ e. f (entry_key e)) listed)
  any_shown seeds eager listed =
      list_any-append (λ p. f p.0) eager (without eager (map (entry_pair seeds) (firsts listed))) ∙ any_without eager (map (entry_pair seeds) (firsts listed))
      ∙ ap (λ b. list_any (λ p. f p.0) eager || b) (any_pairs seeds (firsts listed) ∙ any_firsts listed)

-- where a module lists something, and none that it shows has a key that a filter tells of, none of what it lists has
pub none_dynamic : (seeds : Seeds) (hash : ℕ) (eager : Pairs) (listed : List Entry) → (not (is_none_of listed) && list_any (λ p. may_be_dynamic seeds hash p.0) (shown_of seeds eager listed)) ≡ false
    → lists_dynamic seeds hash listed ≡ false
none_dynamic seeds hash eager [] h = refl
none_dynamic seeds hash eager (e ∷ es) h = (or_parts (list_any (λ p. may_be_dynamic seeds hash p.0) eager) (lists_dynamic seeds hash (e ∷ es)) (sym (any_shown (may_be_dynamic seeds hash) seeds eager (e ∷ es)) ∙ h)).1

pub copied_some : {A : Type 0} (o : Option (Bor A)) → is_some (option_copied o) ≡ is_some o
copied_some None = refl
copied_some (Some x) = refl

-- of lent functions
pub any_lent : (f : Key → Bool) (es : List (Bor Entry)) → list_any (λ e. f (entry_key e.now)) es ≡ list_any (λ e. f (entry_key e)) (map (λ e. e.now) es)
any_lent f [] = refl
any_lent f (e ∷ es) = ap (λ b. f (entry_key e.now) || b) (any_lent f es)

pub pairs_lent : (seeds : Seeds) (es : List (Bor Entry)) → map (λ e. entry_pair seeds e.now) es ≡ map (entry_pair seeds) (map (λ e. e.now) es)
pairs_lent seeds [] = refl
pairs_lent seeds (e ∷ es) = ap (λ ps. entry_pair seeds e.now ∷ ps) (pairs_lent seeds es)
