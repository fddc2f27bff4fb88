-- Declarations of which some take the places of those of equal keys, and others go last.
use Rattle.std.proofs.Common.{◌≡◌, ℕ, Bool, true, false, cond, not, ◌||◌, List, [], ◌∷◌, Option, None, Some, is_some, is_none, refl, sym, ap, true≢false, ◌∙◌}
use Rattle.std.specs.List.{AllByRecursion, filter, list_any}
use Rattle.std.specs.Map.{keys_of}
use Rattle.std.specs.Option.{option_or}
use Rattle.rhd_hash.specs.declared.key.Key.{Key}
use Rattle.rhd_hash.specs.declared.mixer.Seeds.{Seeds}
use Rattle.rhd_hash.specs.Filter.{is_marked}
use Rattle.rhd_hash.specs.Keys.{key_eq}
use Rattle.rhd_hash.specs.Table.{HasOwnHashes}
use Rattle.rhd_decl.specs.declared.declaration.Declaration.{Declaration}
use Rattle.rhd_manifest.specs.Entry.{Entry}
use Rattle.rhd_table.specs.Marks.{may_be_dynamic, lists_dynamic}
use Rattle.rhd_module.specs.Manifests.{lazy}
use Rattle.rhd_table.specs.Pairs.{put_all, put, Pairs}
use Rattle.rhd_module.specs.Shown.{shown}
use Rattle.rhd_module.specs.Tree.{Lists}
use Rattle.rhd_module.proofs.JoinLaws.{put_past}
use Rattle.rhd_table.proofs.Kept.{any_put_there}
use Rattle.rhd_table.proofs.Lookups.{first, one_key, first_put}
use Rattle.rhd_module.proofs.Lookups.{first_filter, first_shown}
use Rattle.rhd_table.proofs.Puts.{there, distinct_own}
use Rattle.rhd_module.proofs.SamePairs.{other_way, Alone, alone_distinct}
use Rattle.rhd_table.proofs.PutParts.{all_still, any_all, none_is}

not_there : {A : Type 0} (o : Option A) → is_some o ≡ false → is_none o ≡ true
not_there None h = refl
not_there (Some x) h = absurd (true≢false h)

-- of keys that are there, nothing is told anew
pub any_there : (test : Key → Bool) (ps x : Pairs) → AllByRecursion (λ p. is_some (first p.0 x) ≡ true) ps → list_any (λ p. test p.0) (put_all ps x) ≡ list_any (λ p. test p.0) x
any_there test [] x h = refl
any_there test (p ∷ ps) x h = any_there test ps (put p.0 p.1 x) (all_still ps (p ∷ []) x h.1) ∙ any_put_there test p.0 p.1 x (none_is (first p.0 x) h.0)

-- Those that are there, and those that are not.
abbrev pub present : Pairs → Key → Bool
present x k = is_some (first k x)

abbrev pub absent : Pairs → Key → Bool
absent x k = is_none (first k x)

pub same_filter : (f g : Key → Bool) (ps : Pairs) → AllByRecursion (λ p. f p.0 ≡ g p.0) ps → filter (λ p. f p.0) ps ≡ filter (λ p. g p.0) ps
same_filter f g [] h = refl
same_filter f g (p ∷ ps) h = λ i. cond (h.0 i) (p ∷ same_filter f g ps h.1 i) (same_filter f g ps h.1 i)

pub every : (f g : Key → Bool) (ps : Pairs) → ((k : Key) → f k ≡ g k) → AllByRecursion (λ p. f p.0 ≡ g p.0) ps
every f g [] h = tt
every f g (p ∷ ps) h = (h p.0, every f g ps h)

not_some : {A : Type 0} (o u : Option A) → is_some o ≡ is_some u → is_none o ≡ is_none u
not_some None None h = refl
not_some None (Some x) h = absurd (true≢false (sym h))
not_some (Some x) None h = absurd (true≢false h)
not_some (Some x) (Some y) h = refl

none_others : (k : Key) (qs : Pairs) → first k qs ≡ None → AllByRecursion (λ q. key_eq k q.0 ≡ false) qs
none_others k [] h = tt
none_others k (q ∷ qs) h = by (key_eq k q.0) refl h (none_others k qs)
  where
    by : (b : Bool) → key_eq k q.0 ≡ b → cond b (Some q.1) (first k qs) ≡ None → (first k qs ≡ None → AllByRecursion (λ r. key_eq k r.0 ≡ false) qs) → AllByRecursion (λ r. key_eq k r.0 ≡ false) (q ∷ qs)
    by true s h ih = absurd (true≢false (ap is_some h))
    by false s h ih = (s, ih h)

module _ (p : Key × Declaration) (own : Pairs) where
  -- where one is replaced, each key is there as before
  replaced_same : (k : Key) → is_some (first p.0 own) ≡ true → present (put p.0 p.1 own) k ≡ present own k
  replaced_same k there = ap is_some (first_put k p.0 p.1 own) ∙ by (key_eq k p.0) refl
    where
      by : (b : Bool) → key_eq k p.0 ≡ b → is_some (cond b (Some p.1) (first k own)) ≡ is_some (first k own)
      by true s = sym (ap (λ (q : Key). is_some (first q own)) (one_key k p.0 s) ∙ there)
      by false s = refl

  -- and where one is put last, each other key
  last_same : (ps : Pairs) → AllByRecursion (λ q. key_eq p.0 q.0 ≡ false) ps → AllByRecursion (λ q. present (put p.0 p.1 own) q.0 ≡ present own q.0) ps
  last_same [] h = tt
  last_same (q ∷ ps) h = (ap is_some (first_put q.0 p.0 p.1 own ∙ (λ i. cond (other_way p.0 q.0 h.0 i) (Some p.1) (first q.0 own))), last_same ps h.1)

  absent_same : (ps : Pairs) → AllByRecursion (λ q. present (put p.0 p.1 own) q.0 ≡ present own q.0) ps → AllByRecursion (λ q. absent (put p.0 p.1 own) q.0 ≡ absent own q.0) ps
  absent_same [] h = tt
  absent_same (q ∷ ps) h = (not_some (first q.0 (put p.0 p.1 own)) (first q.0 own) h.0, absent_same ps h.1)

  -- one more in front of those that are put in first, or not
  split_step : (ps : Pairs) → first p.0 ps ≡ None → put_all (filter (λ q. present (put p.0 p.1 own) q.0) ps) (put_all (filter (λ q. absent (put p.0 p.1 own) q.0) ps) (put p.0 p.1 own)) ≡ put_all ps (put p.0 p.1 own)
      → put_all (filter (λ q. present own q.0) (p ∷ ps)) (put_all (filter (λ q. absent own q.0) (p ∷ ps)) own) ≡ put_all ps (put p.0 p.1 own)
  split_step ps apart ih = by (present own p.0) refl
    where
      here : Pairs → Pairs
      here x = filter (λ q. present x q.0) ps

      gone : Pairs → Pairs
      gone x = filter (λ q. absent x q.0) ps

      now : Pairs
      now = put p.0 p.1 own

      whole : AllByRecursion (λ q. present now q.0 ≡ present own q.0) ps → put_all (here own) (put_all (gone own) now) ≡ put_all ps now
      whole same = sym (λ i. put_all (same_filter (present now) (present own) ps same i) (put_all (same_filter (absent now) (absent own) ps (absent_same ps same) i) now)) ∙ ih

      by : (b : Bool) → present own p.0 ≡ b → put_all (cond (present own p.0) (p ∷ here own) (here own)) (put_all (cond (absent own p.0) (p ∷ gone own) (gone own)) own) ≡ put_all ps now
      by true s =
          let none : absent own p.0 ≡ false = none_is (first p.0 own) s in
          let out : first p.0 (gone own) ≡ None = first_filter (absent own) p.0 ps ∙ (λ i. cond (none i) (first p.0 ps) None) in
          (λ i. put_all (cond (s i) (p ∷ here own) (here own)) (put_all (cond (none i) (p ∷ gone own) (gone own)) own)) ∙ ap (put_all (here own)) (put_past p.0 p.1 (gone own) own out s) ∙ whole (every (present now) (present own) ps (λ k. replaced_same k s))
      by false s =
          let none : absent own p.0 ≡ true = not_there (first p.0 own) s in
          (λ i. put_all (cond (s i) (p ∷ here own) (here own)) (put_all (cond (none i) (p ∷ gone own) (gone own)) own)) ∙ whole (last_same ps (none_others p.0 ps apart))

pub alone_own : (s : Seeds) (ps : Pairs) → HasOwnHashes s (keys_of ps) → Alone ps
alone_own s ps own = alone_distinct ps (distinct_own s (keys_of ps) own)

-- put in all at once, or first those that aren't there
pub split_all : (ps own : Pairs) → Alone ps → put_all (filter (λ p. present own p.0) ps) (put_all (filter (λ p. absent own p.0) ps) own) ≡ put_all ps own
split_all [] own a = refl
split_all (p ∷ ps) own a = split_step p own ps a.0 (split_all ps (put p.0 p.1 own) a.1)

pub all_present : (x ps : Pairs) → AllByRecursion (λ p. is_some (first p.0 x) ≡ true) (filter (λ p. present x p.0) ps)
all_present x [] = tt
all_present x (p ∷ ps) = by (present x p.0) refl (all_present x ps)
  where
    by : (b : Bool) → present x p.0 ≡ b → AllByRecursion (λ q. is_some (first q.0 x) ≡ true) (filter (λ q. present x q.0) ps) → AllByRecursion (λ q. is_some (first q.0 x) ≡ true) (cond b (p ∷ filter (λ q. present x q.0) ps) (filter (λ q. present x q.0) ps))
    by true s more = (s, more)
    by false s more = more

-- those that pass a test that rules out what is there
pub all_absent : (x : Pairs) (test : Key → Bool) (ps : Pairs) → ((k : Key) → test k ≡ true → first k x ≡ None) → AllByRecursion (λ p. first p.0 x ≡ None) (filter (λ p. test p.0) ps)
all_absent x test [] out = tt
all_absent x test (p ∷ ps) out = by (test p.0) refl (all_absent x test ps out)
  where
    by : (b : Bool) → test p.0 ≡ b → AllByRecursion (λ q. first q.0 x ≡ None) (filter (λ q. test q.0) ps) → AllByRecursion (λ q. first q.0 x ≡ None) (cond b (p ∷ filter (λ q. test q.0) ps) (filter (λ q. test q.0) ps))
    by true s more = (out p.0 s, more)
    by false s more = more

pub is_nothing : {A : Type 0} (o : Option A) → is_none o ≡ true → o ≡ None
is_nothing None h = refl
is_nothing (Some x) h = absurd (true≢false (sym h))

or_between : (a b c : Bool) → ((a || b) || c) ≡ ((a || c) || b)
or_between true b c = refl
or_between false true true = refl
or_between false true false = refl
or_between false false true = refl
or_between false false false = refl

-- the filter of a module, where the keys that are new were marked
pub filter_grown : (marks marks2 : List ℕ) (s t : Seeds) (there new old grown : Pairs) (es : List Entry) → ((v : ℕ) → is_marked 8 marks v ≡ (list_any (λ p. may_be_dynamic s v p.0) old || lists_dynamic s v es))
    → ((v : ℕ) → is_marked 8 marks2 v ≡ (is_marked 8 marks v || list_any (λ p. may_be_dynamic s v p.0) new)) → AllByRecursion (λ p. is_some (first p.0 old) ≡ true) there → t ≡ s → grown ≡ put_all there (put_all new old)
    → (v : ℕ) → is_marked 8 marks2 v ≡ (list_any (λ p. may_be_dynamic t v p.0) grown || lists_dynamic t v es)
filter_grown marks marks2 s t there new old grown es right more held same is v =
    more v ∙ ap (λ b. b || list_any (λ p. may_be_dynamic s v p.0) new) (right v) ∙ or_between (list_any (λ p. may_be_dynamic s v p.0) old) (lists_dynamic s v es) (list_any (λ p. may_be_dynamic s v p.0) new)
    ∙ ap (λ b. b || lists_dynamic s v es) (sym (any_there (may_be_dynamic s v) there (put_all new old) (all_still there new old held) ∙ any_all (may_be_dynamic s v) new old))
    ∙ (λ i. list_any (λ p. may_be_dynamic (sym same i) v p.0) (sym is i) || lists_dynamic (sym same i) v es)

pub not_is : {A : Type 0} (o : Option A) → not (is_some o) ≡ is_none o
not_is None = refl
not_is (Some x) = refl

-- what isn't shown isn't declared
pub front_none : (k : Key) (own : Lists) → is_none (first k (shown own)) ≡ true → first k own.eager ≡ None
front_none k own h = by (first k own.eager) (ap is_none (sym (first_shown own k)) ∙ h)
  where
    by : (o : Option Declaration) → is_none (option_or o (first k (lazy own))) ≡ true → o ≡ None
    by None h = refl
    by (Some d) h = absurd (true≢false (sym h))
