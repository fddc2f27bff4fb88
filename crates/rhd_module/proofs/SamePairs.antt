-- The keys of what a module shows, before and after what it lists is registered: no two are the same, and none has a path. So what it gives at a path doesn't see the order of what it shows.
use Rattle.std.proofs.Common.{◌≡◌, Bool, true, false, cond, not, ◌&&◌, ◌||◌, List, [], ◌∷◌, ◌++◌, map, Option, None, Some, is_none, refl, sym, ap, subst, ◌∙◌}
use Rattle.std.specs.List.{AllByRecursion, IsDistinct, filter}
use Rattle.std.specs.Map.{keys_of}
use Rattle.std.specs.Option.{option_or, option_and_then}
use Rattle.std.proofs.lemmas.Bool.{cond-false}
use Rattle.std.proofs.lemmas.Map.Keys.{IsDistinct-head, IsDistinct-tail}
use Rattle.rhd_value.specs.Tree.{Bytes}
use Rattle.rhd_hash.specs.declared.key.Key.{Key}
use Rattle.rhd_hash.specs.declared.key.Key.TheVariants.{Script, Typed, Native}
use Rattle.rhd_hash.specs.declared.mixer.Seeds.{Seeds}
use Rattle.rhd_hash.specs.Keys.{key_eq, key_eq-Decides, with_path, is_typed_key}
use Rattle.rhd_hash.proofs.FirstFound.{same_key, other_key, is_other}
use Rattle.rhd_func.specs.Access.{is_private, is_global_namespace}
use Rattle.rhd_decl.specs.declared.declaration.Declaration.{Declaration}
use Rattle.rhd_manifest.specs.Entry.{Entry, entry_key, entry_pair}
use Rattle.rhd_manifest.specs.Rank.{firsts}
use Rattle.rhd_module.specs.Tree.{Lists}
use Rattle.rhd_table.specs.Pairs.{Pairs, put, put_back, put_all, without}
use Rattle.rhd_module.specs.Manifests.{registered_pairs}
use Rattle.rhd_module.specs.Shown.{shown}
use Rattle.rhd_table.specs.Paths.{unpathed, pathed, pairs_at}
use Rattle.rhd_module.specs.OwnKeys.{key_path, DeclaresOwn}
use Rattle.rhd_module.proofs.Listed.{lookup_append}
use Rattle.rhd_table.proofs.Lookups.{first, one_key, first_put}
use Rattle.rhd_module.proofs.Lookups.{or_none, Apart, first_filter, first_registered}

pub other_way : (a b : Key) → key_eq a b ≡ false → key_eq b a ≡ false
other_way a b e = other_key key_eq key_eq-Decides b a (λ same. is_other key_eq key_eq-Decides a b e (sym same))

pub no_other : (k : Key) (ps : Pairs) → AllByRecursion (λ q. key_eq k q ≡ false) (keys_of ps) → first k ps ≡ None
no_other k [] h = refl
no_other k (p ∷ ps) h = (λ i. cond (h.0 i) (Some p.1) (first k ps)) ∙ no_other k ps h.1

-- no two of some declarations have the same key
abbrev pub Alone : Pairs → Type 0
Alone [] = Unit {0}
Alone (p ∷ ps) = (first p.0 ps ≡ None) × Alone ps

pub alone_distinct : (ps : Pairs) → IsDistinct key_eq (keys_of ps) → Alone ps
alone_distinct [] distinct = tt
alone_distinct (p ∷ ps) distinct = (no_other p.0 ps (IsDistinct-head key_eq p.0 (keys_of ps) distinct), alone_distinct ps (IsDistinct-tail key_eq p.0 (keys_of ps) distinct))

-- declarations put in leave it so
pub alone_put : (k : Key) (d : Declaration) (ps : Pairs) → Alone ps → Alone (put k d ps)
alone_put k d [] a = (refl, tt)
alone_put k d (p ∷ ps) a = by (key_eq k p.0) refl (alone_put k d ps a.1)
  where
    by : (same : Bool) → key_eq k p.0 ≡ same → Alone (put k d ps) → Alone (cond same ((p.0, d) ∷ ps) (p ∷ put k d ps))
    by true s more = a
    by false s more = (first_put p.0 k d ps ∙ (λ i. cond (other_way k p.0 s i) (Some d) (a.0 i)), more)

pub alone_back : (ps base : Pairs) → Alone base → Alone (put_back ps base)
alone_back [] base a = a
alone_back (p ∷ ps) base a = alone_put p.0 p.1 (put_back ps base) (alone_back ps base a)

pub alone_all : (ps base : Pairs) → Alone base → Alone (put_all ps base)
alone_all [] base a = a
alone_all (p ∷ ps) base a = alone_all ps (put p.0 p.1 base) (alone_put p.0 p.1 base a)

apart_keys : (ps : Pairs) → IsDistinct key_eq (keys_of ps) → AllByRecursion (λ k. key_path k ≡ None) (keys_of ps) → Apart ps
apart_keys [] distinct plain = tt
apart_keys (p ∷ ps) distinct plain = (plain.0, no_other p.0 ps (IsDistinct-head key_eq p.0 (keys_of ps) distinct), apart_keys ps (IsDistinct-tail key_eq p.0 (keys_of ps) distinct) plain.1)

-- such are the declarations of a module with own keys
pub apart_declared : (own : Lists) → DeclaresOwn own → Apart own.eager
apart_declared own declares = apart_keys own.eager declares.0 declares.1

-- declarations without a path put in leave it so
pub apart_put : (k : Key) (d : Declaration) (ps : Pairs) → key_path k ≡ None → Apart ps → Apart (put k d ps)
apart_put k d [] plain a = (plain, refl, tt)
apart_put k d (p ∷ ps) plain a = by (key_eq k p.0) refl (apart_put k d ps plain a.2)
  where
    by : (same : Bool) → key_eq k p.0 ≡ same → Apart (put k d ps) → Apart (cond same ((p.0, d) ∷ ps) (p ∷ put k d ps))
    by true s more = a
    by false s more = (a.0, first_put p.0 k d ps ∙ (λ i. cond (other_way k p.0 s i) (Some d) (a.1 i)), more)

apart_back : (seeds : Seeds) (es : List Entry) → Apart (put_back (map (entry_pair seeds) es) [])
apart_back seeds [] = tt
apart_back seeds (e ∷ es) = apart_put (entry_key e) (entry_pair seeds e).1 (put_back (map (entry_pair seeds) es) []) refl (apart_back seeds es)

apart_all : (ps base : Pairs) → Apart ps → Apart base → Apart (put_all ps base)
apart_all [] base a b = b
apart_all (p ∷ ps) base a b = apart_all ps (put p.0 p.1 base) a.2 (apart_put p.0 p.1 base a.0 b)

pub apart_registered : (own : Lists) → Apart own.eager → Apart (registered_pairs own)
apart_registered own a = apart_all own.eager (put_back (map (entry_pair own.seeds) own.listed) []) a (apart_back own.seeds own.listed)

-- so it is of those whose keys pass a test
apart_filter : (f : Key → Bool) (ps : Pairs) → Apart ps → Apart (filter (λ p. f p.0) ps)
apart_filter f [] a = tt
apart_filter f (p ∷ ps) a = by (f p.0) (apart_filter f ps a.2)
  where
    none : (b : Bool) (o : Option Declaration) → o ≡ None → cond b o None ≡ None
    none true o h = h
    none false o h = refl

    by : (passes : Bool) → Apart (filter (λ p. f p.0) ps) → Apart (cond passes (p ∷ filter (λ p. f p.0) ps) (filter (λ p. f p.0) ps))
    by true more = (a.0, first_filter f p.0 ps ∙ none (f p.0) (first p.0 ps) a.1, more)
    by false more = more

filter_pairs : (seeds : Seeds) (f : Key → Bool) (es : List Entry) → map (entry_pair seeds) (filter (λ e. f (entry_key e)) es) ≡ filter (λ p. f p.0) (map (entry_pair seeds) es)
filter_pairs seeds f [] = refl
filter_pairs seeds f (e ∷ es) = by (f (entry_key e)) (filter_pairs seeds f es)
  where
    kept : List Entry
    kept = filter (λ e. f (entry_key e)) es

    by : (passes : Bool) → map (entry_pair seeds) kept ≡ filter (λ p. f p.0) (map (entry_pair seeds) es)
        → map (entry_pair seeds) (cond passes (e ∷ kept) kept) ≡ cond passes (entry_pair seeds e ∷ filter (λ p. f p.0) (map (entry_pair seeds) es)) (filter (λ p. f p.0) (map (entry_pair seeds) es))
    by true ih = ap (λ ps. entry_pair seeds e ∷ ps) ih
    by false ih = ih

-- of the first under each key of what is listed
apart_firsts : (seeds : Seeds) (es : List Entry) → Apart (map (entry_pair seeds) (firsts es))
apart_firsts seeds [] = tt
apart_firsts seeds (e ∷ es) =
    let other : Key → Bool = λ k. not (key_eq k (entry_key e)) in
    let ps : Pairs = map (entry_pair seeds) (firsts es) in
    let is : map (entry_pair seeds) (filter (λ d. other (entry_key d)) (firsts es)) ≡ filter (λ p. other p.0) ps = filter_pairs seeds other (firsts es) in (
      refl,
      ap (first (entry_key e)) is ∙ first_filter other (entry_key e) ps ∙ cond-false (other (entry_key e)) (first (entry_key e) ps) None (ap not (same_key key_eq key_eq-Decides (entry_key e))),
      subst Apart (sym is) (apart_filter other ps (apart_firsts seeds es)),
    )

-- and of two lists, where the second has no key of the first
apart_append : (xs ys : Pairs) → Apart xs → Apart ys → ((k : Key) → is_none (first k xs) ≡ false → first k ys ≡ None) → Apart (xs ++ ys)
apart_append [] ys a b others = b
apart_append (x ∷ xs) ys a b others = (
  a.0,
  lookup_append (key_eq x.0) xs ys ∙ (λ i. option_or (a.1 i) (others x.0 (ap (λ b. is_none (cond b (Some x.1) (first x.0 xs))) (same_key key_eq key_eq-Decides x.0)) i)),
  apart_append xs ys a.2 b (λ k some. others k (there (key_eq k x.0) (first k xs) some)),
)
  where
    there : (b : Bool) (o : Option Declaration) → is_none o ≡ false → is_none (cond b (Some x.1) o) ≡ false
    there true o h = refl
    there false o h = h

-- so it is of what a module shows
pub apart_shown : (own : Lists) → Apart own.eager → Apart (shown own)
apart_shown own a =
    let ps : Pairs = map (entry_pair own.seeds) (firsts own.listed) in
    let free : Key → Bool = λ k. is_none (first k own.eager) in
    apart_append own.eager (without own.eager ps) a (apart_filter free ps (apart_firsts own.seeds own.listed)) (λ k some. first_filter free k ps ∙ cond-false (free k) (first k ps) None some)

-- a key without its path
abbrev stem : Key → Key
stem (Script path name params) = Script None name params
stem (Typed path name params this_type) = Typed None name params this_type
stem (Native path name types) = Native None name types

stem_plain : (k : Key) → key_path k ≡ None → stem k ≡ k
stem_plain (Script path name params) h = ap (λ p. Script p name params) (sym h)
stem_plain (Typed path name params this_type) h = ap (λ p. Typed p name params this_type) (sym h)
stem_plain (Native path name types) h = ap (λ p. Native p name types) (sym h)

stem_with : (path : List Bytes) (k : Key) → stem (with_path path k) ≡ stem k
stem_with path (Script p name params) = refl
stem_with path (Typed p name params this_type) = refl
stem_with path (Native p name types) = refl

-- two pairs that there may be, neither with this key
neither : (q k l : Key) (d : Declaration) (a b : Bool) → key_eq q k ≡ false → key_eq q l ≡ false → first q (cond a ((k, d) ∷ []) [] ++ cond b [] ((l, d) ∷ [])) ≡ None
neither q k l d true true e f = ap (λ t. cond t (Some d) None) e
neither q k l d true false e f = λ i. cond (e i) (Some d) (cond (f i) (Some d) None)
neither q k l d false true e f = refl
neither q k l d false false e f = ap (λ t. cond t (Some d) None) f

module _ (path : List Bytes) where
  -- the pairs that a declaration gives
  abbrev given : Key × Declaration → Pairs
  given p = unpathed p ++ pathed path p

  -- none has a key whose stem is another
  given_other : (q : Key) (p : Key × Declaration) → key_path p.0 ≡ None → key_eq (stem q) p.0 ≡ false → first q (given p) ≡ None
  given_other q p plain e =
      let is_plain : stem p.0 ≡ p.0 = stem_plain p.0 plain in
      let differs : stem q ≡ p.0 → ⊥ = λ same. is_other key_eq key_eq-Decides (stem q) p.0 e (sym same) in
      neither q p.0 (with_path path p.0) p.1 (is_global_namespace p.1.metadata.namespace && (not (is_private p.1.metadata.access) || is_typed_key p.0)) (is_private p.1.metadata.access)
      (other_key key_eq key_eq-Decides q p.0 (λ same. differs (ap stem (sym same) ∙ is_plain)))
      (other_key key_eq key_eq-Decides q (with_path path p.0) (λ same. differs (ap stem (sym same) ∙ stem_with path p.0 ∙ is_plain)))

  -- what a key finds is told by the one declaration under its stem
  first_given : (q : Key) (ps : Pairs) → Apart ps → first q (pairs_at path ps) ≡ option_and_then (λ d. first q (given (stem q, d))) (first (stem q) ps)
  first_given q [] a = refl
  first_given q (p ∷ ps) a = lookup_append (key_eq q) (given p) (pairs_at path ps) ∙ ap (option_or (first q (given p))) (first_given q ps a.2) ∙ by (key_eq (stem q) p.0) refl
    where
      told : Option Declaration → Option Declaration
      told o = option_and_then (λ d. first q (given (stem q, d))) o

      by : (same : Bool) → key_eq (stem q) p.0 ≡ same → option_or (first q (given p)) (told (first (stem q) ps)) ≡ told (cond same (Some p.1) (first (stem q) ps))
      by true s =
          let is : stem q ≡ p.0 = one_key (stem q) p.0 s in
          ap (λ o. option_or (first q (given p)) (told o)) (ap (λ k. first k ps) is ∙ a.1) ∙ or_none (first q (given p)) ∙ ap (λ k. first q (given (k, p.1))) (sym is)
      by false s = ap (λ o. option_or o (told (first (stem q) ps))) (given_other q p a.0 s)

  -- so what is registered gives what was shown
  pub pairs_registered : (own : Lists) (k : Key) → Apart own.eager → first k (pairs_at path (registered_pairs own)) ≡ first k (pairs_at path (shown own))
  pairs_registered own k a =
      first_given k (registered_pairs own) (apart_registered own a) ∙ ap (option_and_then (λ d. first k (given (stem k, d)))) (first_registered own (stem k) a) ∙ sym (first_given k (shown own) (apart_shown own a))
