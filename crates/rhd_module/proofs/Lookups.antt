-- What a key finds among declarations: joined, put in one after the other, and in what a module shows before and after what it lists is registered.
use Rattle.std.proofs.Common.{◌≡◌, Bool, true, false, cond, [], ◌∷◌, ◌++◌, map, Option, None, Some, is_none, refl, sym, ap, ◌∙◌}
use Rattle.std.specs.Prelude.{⊤}
use Rattle.std.specs.List.{filter}
use Rattle.std.specs.Option.{option_or, option_map}
use Rattle.std.proofs.lemmas.Map.Entries.{lookup-filter-keys}
use Rattle.rhd_hash.specs.declared.key.Key.{Key}
use Rattle.rhd_hash.specs.Keys.{key_eq}
use Rattle.rhd_decl.specs.declared.declaration.Declaration.{Declaration}
use Rattle.rhd_manifest.specs.Entry.{entry_decl, entry_pair}
use Rattle.rhd_manifest.specs.Rank.{firsts}
use Rattle.rhd_module.specs.Tree.{Lists}
use Rattle.rhd_table.specs.Pairs.{Pairs, put, put_back, put_all, without}
use Rattle.rhd_module.specs.Manifests.{lazy, registered_pairs}
use Rattle.rhd_module.specs.Shown.{shown}
use Rattle.rhd_module.specs.OwnKeys.{key_path}
use Rattle.rhd_module.proofs.Listed.{lookup_append, lookup_pairs, find_firsts}
use Rattle.rhd_table.proofs.Lookups.{first, first_put, one_key}

pub or_none : {A : Type 0} (o : Option A) → option_or o None ≡ o
or_none None = refl
or_none (Some x) = refl

cond_or : {A : Type 0} (b : Bool) (x : A) (o p : Option A) → cond b (Some x) (option_or o p) ≡ option_or (cond b (Some x) o) p
cond_or true x o p = refl
cond_or false x o p = refl

-- joined lists find alike where their parts do
pub joined : (k : Key) (xs ys us vs : Pairs) → first k xs ≡ first k us → first k ys ≡ first k vs → first k (xs ++ ys) ≡ first k (us ++ vs)
joined k xs ys us vs a b = lookup_append (key_eq k) xs ys ∙ (λ i. option_or (a i) (b i)) ∙ sym (lookup_append (key_eq k) us vs)

-- those whose keys pass a test
pub first_filter : (f : Key → Bool) (k : Key) (ps : Pairs) → first k (filter (λ p. f p.0) ps) ≡ cond (f k) (first k ps) None
first_filter f k ps = lookup-filter-keys (key_eq k) f (f k) (λ q same. ap f (sym (one_key k q same))) ps

-- put in from the last to the first: the first of them is found, else what was there
pub first_back : (k : Key) (ps base : Pairs) → first k (put_back ps base) ≡ option_or (first k ps) (first k base)
first_back k [] base = refl
first_back k (p ∷ ps) base = first_put k p.0 p.1 (put_back ps base) ∙ ap (cond (key_eq k p.0) (Some p.1)) (first_back k ps base) ∙ cond_or (key_eq k p.0) p.1 (first k ps) (first k base)

-- no two of some declarations have the same key, and none has a key with a path
abbrev pub Apart : Pairs → Type 0
Apart [] = ⊤
Apart (p ∷ ps) = (key_path p.0 ≡ None) × (first p.0 ps ≡ None) × Apart ps

-- of such ones, put in from the first to the last, the same is found
pub first_all : (k : Key) (ps base : Pairs) → Apart ps → first k (put_all ps base) ≡ option_or (first k ps) (first k base)
first_all k [] base a = refl
first_all k (p ∷ ps) base a =
    first_all k ps (put p.0 p.1 base) a.2 ∙ ap (option_or (first k ps)) (first_put k p.0 p.1 base) ∙ swap (key_eq k p.0) (first k ps) p.1 (first k base) (λ e. ap (λ x. first x ps) (one_key k p.0 e) ∙ a.1)
  where
    swap : (b : Bool) (o : Option Declaration) (x : Declaration) (r : Option Declaration) → (b ≡ true → o ≡ None) → option_or o (cond b (Some x) r) ≡ option_or (cond b (Some x) o) r
    swap true o x r h = ap (λ t. option_or t (Some x)) (h refl)
    swap false o x r h = refl

-- What a module shows and what it leaves registered: a declaration, else what is listed.
module _ (own : Lists) (k : Key) where
  pub first_shown : first k (shown own) ≡ option_or (first k own.eager) (first k (lazy own))
  first_shown =
      lookup_append (key_eq k) own.eager (without own.eager (map (entry_pair own.seeds) (firsts own.listed)))
      ∙ ap (option_or (first k own.eager)) (first_filter (λ q. is_none (first q own.eager)) k (map (entry_pair own.seeds) (firsts own.listed)))
      ∙ hidden (first k own.eager) (first k (map (entry_pair own.seeds) (firsts own.listed)))
      ∙ ap (option_or (first k own.eager)) (lookup_pairs own.seeds k (firsts own.listed) ∙ ap (option_map (entry_decl own.seeds)) (find_firsts k own.listed) ∙ sym (lookup_pairs own.seeds k own.listed))
    where
      hidden : (o p : Option Declaration) → option_or o (cond (is_none o) p None) ≡ option_or o p
      hidden None p = refl
      hidden (Some d) p = refl

  pub first_registered : Apart own.eager → first k (registered_pairs own) ≡ first k (shown own)
  first_registered a =
      first_all k own.eager (put_back (lazy own) []) a ∙ ap (option_or (first k own.eager)) (first_back k (lazy own) [] ∙ or_none (first k (lazy own))) ∙ sym first_shown
