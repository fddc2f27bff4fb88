-- How an index is filled with one module after the other, and what it is then.
use Rattle.std.proofs.Common.{◌≡◌, ℕ, Bool, true, false, ◌||◌, List, [], ◌∷◌, ◌++◌, map, length, Some, slice_get, Result, Ok, Err, refl, sym, ap, subst, ◌∙◌, append_assoc, append-nil, arith, inl, inr, Bor}
use Rattle.std.specs.Map.{lookup, keys_of}
use Rattle.std.specs.List.{IsDistinct, list_any}
use Rattle.std.proofs.lemmas.List.Folds.{list_any-append}
use Rattle.std.specs.Result.{IsErr, IsErrAnd, OnOk}
use Rattle.std.specs.declared.rc.Rc.{Rc}
use Rattle.std.proofs.lemmas.Bool.Decides.{eqb_tells, leb_tells}
use Rattle.std.proofs.lemmas.Grind.{flat_map-append}
use Rattle.std.proofs.lemmas.Option.{slice_get_read}
use Rattle.rhd_value.specs.Tree.{Bytes}
use Rattle.rhd_hash.specs.declared.mixer.Seeds.{Seeds}
use Rattle.rhd_hash.specs.declared.key.Key.{Key}
use Rattle.rhd_hash.specs.Keys.{key_eq}
use Rattle.rhd_hash.specs.Filter.{is_marked}
use Rattle.rhd_hash.specs.Table.{HasOwnHashes}
use Rattle.rhd_hash.proofs.HashedPairs.{own_apart}
use Rattle.rhd_decl.specs.declared.declaration.Declaration.{Declaration}
use Rattle.rhd_decl.specs.declared.fault.DeclFault.{DeclFault}
use Rattle.rhd_decl.specs.declared.fault.DeclFault.TheVariants.{HashCollision, IndexerNotAllowed, NotCallable, UnknownNumber, OutOfMemory}
use Rattle.rhd_module.specs.Tree.{ModuleTree, Lists, subs_of}
use Rattle.rhd_table.specs.Pairs.{Pairs, without}
use Rattle.rhd_func.specs.Access.{is_global_namespace}
use Rattle.rhd_manifest.specs.Entry.{Entry, entry_key, entry_pair}
use Rattle.rhd_manifest.specs.Rank.{firsts}
use Rattle.rhd_module.specs.Shown.{shown}
use Rattle.rhd_table.specs.Paths.{unpathed, pathed, pairs_at}
use Rattle.rhd_module.specs.Walk.{below, walk, tree}
use Rattle.rhd_module.specs.Below.{some_below, some_in, declares_global, declares_dynamic}
use Rattle.rhd_table.specs.Marks.{may_be_dynamic, lists_dynamic}
use Rattle.rhd_table.specs.Indexed.{Indexed, Fills, IsClash, NoneClash, filled}
use Rattle.rhd_module.specs.Index.{IsIndexOf, Indexes}
use Rattle.rhd_module.proofs.Listed.{any_firsts, any_shown, any_lent, pairs_lent}
use Rattle.rhd_table.proofs.Filled.{Funcs, has_key, has_filled, clash_among, clash_before}
use Rattle.rhd_module.proofs.Filled.{first_filled_empty}
use Rattle.rhd_table.proofs.Fills.{clash_then, fills_as, fills_then, or_assoc, or_false, or_turned}

module _ {Z : Type 0} where
  -- what is below some sub-modules and others
  pub below_more : (path : List Bytes) (front rest : List (Bytes × Rc ModuleTree Z)) → below path (subs_of (front ++ rest)) ≡ below path (subs_of rest) ++ below path (subs_of front)
  below_more path [] rest = sym (append-nil (below path (subs_of rest)))
  below_more path ((name, m) ∷ front) rest =
      let own = walk (path ++ name ∷ []) m.value in
      ap (λ (ps : Pairs). ps ++ own) (below_more path front rest) ∙ append_assoc (below path (subs_of rest)) (below path (subs_of front)) own

  pub some_more : (has : Lists → Bool) (front rest : List (Bytes × Rc ModuleTree Z)) → some_below has (subs_of (front ++ rest)) ≡ (some_below has (subs_of front) || some_below has (subs_of rest))
  some_more has [] rest = refl
  some_more has ((name, m) ∷ front) rest =
      let own = has m.value.own in
      let lower = some_below has m.value.subs in
      let now = some_below has (subs_of front) in
      let later = some_below has (subs_of rest) in
      ap (λ (b : Bool). own || (lower || b)) (some_more has front rest)
      ∙ ap (λ (b : Bool). own || b) (sym (or_assoc lower now later))
      ∙ sym (or_assoc own (lower || now) later)

  pub some_one : (has : Lists → Bool) (name : Bytes) (m : Rc ModuleTree Z) → some_below has (subs_of ((name, m) ∷ [])) ≡ some_in has m.value
  some_one has name m = ap (λ (b : Bool). has m.value.own || b) (or_false (some_below has m.value.subs))

-- no keys are keys of hashes of their own
pub own_none : (seeds : Seeds) → HasOwnHashes seeds []
unfolding HasOwnHashes IsDistinct
own_none seeds = tt

pub on_more : {A E : Type 0} (r : Result A E) (P Q : Type 0) → (P → Q) → OnOk r P → OnOk r Q
on_more (Ok a) P Q more h = more h
on_more (Err e) P Q more h = tt

module _ {Z : Type 0} where
  -- a sub-module that isn't put in
  pub clash_below : (o m : Indexed) (path : List Bytes) (done : List (Bytes × Rc ModuleTree Z)) (x : Bytes × Rc ModuleTree Z) (next all : List (Bytes × Rc ModuleTree Z)) (own : Pairs) (d : ℕ → Bool) (g : Bool) (fault : DeclFault)
      → all ≡ (done ++ x ∷ []) ++ next → Fills o m (below path (subs_of done)) d g → IsClash m.seeds (keys_of (walk (path ++ x.0 ∷ []) x.1.value) ++ keys_of m.pairs) fault
      → IsClash o.seeds (keys_of (pairs_at path own ++ below path (subs_of all)) ++ keys_of o.pairs) fault
  clash_below o m path done x next all own d g fault is fills c =
      let P : Pairs → Type 0 = λ ps. IsClash o.seeds (keys_of ps ++ keys_of o.pairs) fault in
      let here : P (walk (path ++ x.0 ∷ []) x.1.value ++ below path (subs_of done)) = clash_then o m (below path (subs_of done)) (walk (path ++ x.0 ∷ []) x.1.value) d g fault fills c in
      let one : P (below path (subs_of (done ++ x ∷ []))) = subst P (sym (below_more path done (x ∷ []))) here in
      let more : P (below path (subs_of next) ++ below path (subs_of (done ++ x ∷ []))) = clash_before o.seeds (below path (subs_of next)) (below path (subs_of (done ++ x ∷ []))) (keys_of o.pairs) fault one in
      let whole : P (below path (subs_of all)) = subst P (sym (ap (λ (es : List (Bytes × Rc ModuleTree Z)). below path (subs_of es)) is ∙ below_more path (done ++ x ∷ []) next)) more in
      clash_before o.seeds (pairs_at path own) (below path (subs_of all)) (keys_of o.pairs) fault whole

  -- one sub-module more
  pub fills_below : (o m n : Indexed) (path : List Bytes) (done : List (Bytes × Rc ModuleTree Z)) (x : Bytes × Rc ModuleTree Z)
      → Fills o m (below path (subs_of done)) (λ v. some_below (declares_dynamic o.seeds v) (subs_of done)) (some_below declares_global (subs_of done))
      → Fills m n (walk (path ++ x.0 ∷ []) x.1.value) (λ v. some_in (declares_dynamic m.seeds v) x.1.value) (some_in declares_global x.1.value)
      → Fills o n (below path (subs_of (done ++ x ∷ []))) (λ v. some_below (declares_dynamic o.seeds v) (subs_of (done ++ x ∷ []))) (some_below declares_global (subs_of (done ++ x ∷ [])))
  fills_below o m n path done x a b =
      let tells : (has : Lists → Bool) → (some_below has (subs_of done) || some_in has x.1.value) ≡ some_below has (subs_of (done ++ x ∷ [])) =
      λ has. ap (λ (c : Bool). some_below has (subs_of done) || c) (sym (some_one has x.0 x.1)) ∙ sym (some_more has done (x ∷ [])) in
      fills_as o n (walk (path ++ x.0 ∷ []) x.1.value ++ below path (subs_of done)) (below path (subs_of (done ++ x ∷ []))) _ _ _ _ (sym (below_more path done (x ∷ [])))
      (λ v. (λ i. some_below (declares_dynamic o.seeds v) (subs_of done) || some_in (declares_dynamic (a.same_seeds i) v) x.1.value) ∙ tells (declares_dynamic o.seeds v)) (tells declares_global)
      (fills_then o m n (below path (subs_of done)) (walk (path ++ x.0 ∷ []) x.1.value) _ _ _ _ a b)

-- What is found in a module itself: the marks, then what is listed, then its declarations.
module _ (o j l n : Indexed) (path : List Bytes) (own : Lists) where
  abbrev others : Pairs
  others = without own.eager (map (entry_pair own.seeds) (firsts own.listed))

  abbrev global : Pairs → Bool
  global ps = list_any (λ p. is_global_namespace p.1.metadata.namespace) ps

  abbrev dynamic : ℕ → Bool
  dynamic v = list_any (λ p. may_be_dynamic o.seeds v p.0) own.eager || lists_dynamic o.seeds v (firsts own.listed)

  pairs_both : (ps : Pairs) → pairs_at path ps ++ (pairs_at path others ++ []) ≡ pairs_at path (ps ++ others)
  pairs_both ps = ap (λ (qs : Pairs). pairs_at path ps ++ qs) (append-nil (pairs_at path others)) ∙ sym (flat_map-append (λ (q : Key × Declaration). unpathed q ++ pathed path q) ps others)

  shown_dynamic : (v : ℕ) → dynamic v ≡ declares_dynamic o.seeds v own
  shown_dynamic v =
      ap (λ b. list_any (λ p. may_be_dynamic o.seeds v p.0) own.eager || b) (any_firsts (may_be_dynamic o.seeds v) own.listed) ∙ sym (any_shown (may_be_dynamic o.seeds v) own.seeds own.eager own.listed)

  pub fills_own : Fills o j [] dynamic false → Fills j l (pairs_at path others) (λ _. false) (global others) → Fills l n (pairs_at path own.eager) (λ _. false) (global own.eager)
      → Fills o n (pairs_at path (shown own)) (λ v. declares_dynamic o.seeds v own) (declares_global own)
  fills_own marks listed eager =
      fills_as o n (pairs_at path own.eager ++ (pairs_at path others ++ [])) (pairs_at path (shown own)) (λ v. (dynamic v || false) || false) (λ v. declares_dynamic o.seeds v own) ((false || global others) || global own.eager) (declares_global own)
      (pairs_both own.eager) (λ v. or_false (dynamic v || false) ∙ or_false (dynamic v) ∙ shown_dynamic v)
      (or_turned (global others) (global own.eager) ∙ sym (list_any-append (λ p. is_global_namespace p.1.metadata.namespace) own.eager others))
      (fills_then o l n (pairs_at path others ++ []) (pairs_at path own.eager) _ _ _ _ (fills_then o j l [] (pairs_at path others) _ _ _ _ marks listed) eager)

  pub clash_listed : (fault : DeclFault) → Fills o j [] dynamic false → IsClash j.seeds (keys_of (pairs_at path others) ++ keys_of j.pairs) fault → IsClash o.seeds (keys_of (pairs_at path (shown own)) ++ keys_of o.pairs) fault
  clash_listed fault marks c =
      let P : Pairs → Type 0 = λ ps. IsClash o.seeds (keys_of ps ++ keys_of o.pairs) fault in
      let here : P (pairs_at path others ++ []) = clash_then o j [] (pairs_at path others) dynamic false fault marks c in
      subst P (pairs_both own.eager) (clash_before o.seeds (pairs_at path own.eager) (pairs_at path others ++ []) (keys_of o.pairs) fault here)

  pub clash_eager : (fault : DeclFault) → Fills o j [] dynamic false → Fills j l (pairs_at path others) (λ _. false) (global others) → IsClash l.seeds (keys_of (pairs_at path own.eager) ++ keys_of l.pairs) fault
      → IsClash o.seeds (keys_of (pairs_at path (shown own)) ++ keys_of o.pairs) fault
  clash_eager fault marks listed c =
      let P : Pairs → Type 0 = λ ps. IsClash o.seeds (keys_of ps ++ keys_of o.pairs) fault in
      subst P (pairs_both own.eager) (clash_then o l (pairs_at path others ++ []) (pairs_at path own.eager) _ _ fault (fills_then o j l [] (pairs_at path others) _ _ _ _ marks listed) c)

-- The same of listed functions that are lent.
module _ (o j l n : Indexed) (path : List Bytes) (own : Lists) (one two : List (Bor Entry)) (first : map (λ e. e.now) one ≡ firsts own.listed) (second : map (λ e. e.now) two ≡ firsts own.listed) where
  abbrev lent_global : Pairs → Bool
  lent_global ps = list_any (λ p. is_global_namespace p.1.metadata.namespace) ps

  abbrev lent_pairs : Pairs
  lent_pairs = map (λ e. entry_pair own.seeds e.now) two

  lent_are : lent_pairs ≡ map (entry_pair own.seeds) (firsts own.listed)
  lent_are = pairs_lent own.seeds two ∙ ap (map (entry_pair own.seeds)) second

  marks_are : Fills o j [] (λ v. list_any (λ p. may_be_dynamic o.seeds v p.0) own.eager || list_any (λ e. may_be_dynamic o.seeds v (entry_key e.now)) one) false
      → Fills o j [] (λ v. list_any (λ p. may_be_dynamic o.seeds v p.0) own.eager || lists_dynamic o.seeds v (firsts own.listed)) false
  marks_are marks =
      fills_as o j [] [] _ _ false false refl
      (λ v. ap (λ b. list_any (λ p. may_be_dynamic o.seeds v p.0) own.eager || b) (any_lent (may_be_dynamic o.seeds v) one ∙ ap (list_any (λ e. may_be_dynamic o.seeds v (entry_key e))) first)) refl marks

  listed_are : Fills j l (pairs_at path (without own.eager lent_pairs)) (λ _. false) (lent_global (without own.eager lent_pairs))
      → Fills j l (pairs_at path (without own.eager (map (entry_pair own.seeds) (firsts own.listed)))) (λ _. false) (lent_global (without own.eager (map (entry_pair own.seeds) (firsts own.listed))))
  listed_are listed = subst (λ (ps : Pairs). Fills j l (pairs_at path (without own.eager ps)) (λ _. false) (lent_global (without own.eager ps))) lent_are listed

  pub fills_lent : Fills o j [] (λ v. list_any (λ p. may_be_dynamic o.seeds v p.0) own.eager || list_any (λ e. may_be_dynamic o.seeds v (entry_key e.now)) one) false
      → Fills j l (pairs_at path (without own.eager lent_pairs)) (λ _. false) (lent_global (without own.eager lent_pairs)) → Fills l n (pairs_at path own.eager) (λ _. false) (lent_global own.eager)
      → Fills o n (pairs_at path (shown own)) (λ v. declares_dynamic o.seeds v own) (declares_global own)
  fills_lent marks listed eager = fills_own o j l n path own (marks_are marks) (listed_are listed) eager

  pub clash_lent : (fault : DeclFault) → Fills o j [] (λ v. list_any (λ p. may_be_dynamic o.seeds v p.0) own.eager || list_any (λ e. may_be_dynamic o.seeds v (entry_key e.now)) one) false
      → IsClash j.seeds (keys_of (pairs_at path (without own.eager lent_pairs)) ++ keys_of j.pairs) fault → IsClash o.seeds (keys_of (pairs_at path (shown own)) ++ keys_of o.pairs) fault
  clash_lent fault marks c = clash_listed o j l n path own fault (marks_are marks) (subst (λ (ps : Pairs). IsClash j.seeds (keys_of (pairs_at path (without own.eager ps)) ++ keys_of j.pairs) fault) lent_are c)

  pub clash_last : (fault : DeclFault) → Fills o j [] (λ v. list_any (λ p. may_be_dynamic o.seeds v p.0) own.eager || list_any (λ e. may_be_dynamic o.seeds v (entry_key e.now)) one) false
      → Fills j l (pairs_at path (without own.eager lent_pairs)) (λ _. false) (lent_global (without own.eager lent_pairs)) → IsClash l.seeds (keys_of (pairs_at path own.eager) ++ keys_of l.pairs) fault
      → IsClash o.seeds (keys_of (pairs_at path (shown own)) ++ keys_of o.pairs) fault
  clash_last fault marks listed c = clash_eager o j l n path own fault (marks_are marks) (listed_are listed) c

-- what is below a module, then its own
pub fills_module : (o a n : Indexed) (path : List Bytes) (m : ModuleTree)
    → Fills o a (below path m.subs) (λ v. some_below (declares_dynamic o.seeds v) m.subs) (some_below declares_global m.subs) → Fills a n (pairs_at path (shown m.own)) (λ v. declares_dynamic a.seeds v m.own) (declares_global m.own)
    → Fills o n (walk path m) (λ v. some_in (declares_dynamic o.seeds v) m) (some_in declares_global m)
fills_module o a n path m lower own =
    fills_as o n (walk path m) (walk path m) (λ v. some_below (declares_dynamic o.seeds v) m.subs || declares_dynamic a.seeds v m.own) (λ v. some_in (declares_dynamic o.seeds v) m) (some_below declares_global m.subs || declares_global m.own) (some_in declares_global m) refl
    (λ v. (λ i. some_below (declares_dynamic o.seeds v) m.subs || declares_dynamic (lower.same_seeds i) v m.own) ∙ or_turned (some_below (declares_dynamic o.seeds v) m.subs) (declares_dynamic o.seeds v m.own))
    (or_turned (some_below declares_global m.subs) (declares_global m.own))
    (fills_then o a n (below path m.subs) (pairs_at path (shown m.own)) _ _ _ _ lower own)

pub clash_module : (o a : Indexed) (path : List Bytes) (m : ModuleTree) (d : ℕ → Bool) (g : Bool) (fault : DeclFault) → Fills o a (below path m.subs) d g
    → IsClash a.seeds (keys_of (pairs_at path (shown m.own)) ++ keys_of a.pairs) fault → IsClash o.seeds (keys_of (walk path m) ++ keys_of o.pairs) fault
clash_module o a path m d g fault lower c = clash_then o a (below path m.subs) (pairs_at path (shown m.own)) d g fault lower c

-- keys of hashes of their own don't clash
pub none_clash : (seeds : Seeds) (keys : List Key) → HasOwnHashes seeds keys → NoneClash seeds keys
none_clash seeds keys own held new c =
    let i = c.held_there.0 in
    let j = c.new_there.0 in
    let at : slice_get keys i ≡ Some held = slice_get_read keys (length keys) i held refl c.held_there.1 (sym c.held_there.2) in
    let there : slice_get keys j ≡ Some new = slice_get_read keys (length keys) j new refl c.new_there.1 (sym c.new_there.2) in
    let apart = own_apart seeds keys own in
    elim (leb_tells i j) [
      | inl p ↦ elim (eqb_tells i j) [
        | inl q ↦ (let one : Some held ≡ Some new = sym at ∙ ap (λ (k : ℕ). slice_get keys k) q.1 ∙ there in c.clash.differ (cc))
        | inr q ↦ (apart i j held new (omega (arith, p.1, q.1)) at there).1 c.clash
      ]
      | inr p ↦ (apart j i new held (omega (arith, p.1)) there at).1 (record { differ = λ e. c.clash.differ (sym e); one_hash = sym c.clash.one_hash })
    ]

-- an empty index that was filled with a tree
pub is_index : (o n : Indexed) (path : List Bytes) (m : ModuleTree) → o.seeds ≡ m.own.seeds → o.pairs ≡ [] → ((v : ℕ) → is_marked 8 o.marks v ≡ false) → o.has_global ≡ false → path ≡ []
    → Fills o n (walk path m) (λ v. some_in (declares_dynamic o.seeds v) m) (some_in declares_global m) → IsIndexOf n m
is_index o n path m seeds none marks tells root f =
    let puts : n.pairs ≡ filled (tree m) [] = f.puts ∙ (λ i. filled (walk (root i) m) (none i)) in
    let own : HasOwnHashes n.seeds (keys_of n.pairs) = f.apart (subst (λ (ps : Funcs). HasOwnHashes o.seeds (keys_of ps)) (sym none) (own_none o.seeds)) in
    let same : n.seeds ≡ m.own.seeds = f.same_seeds ∙ seeds in
    let held : (k : Key) → has_key k (keys_of (tree m)) ≡ true → has_key k (keys_of n.pairs) ≡ true =
    λ k h. ap (λ (ps : Funcs). has_key k (keys_of ps)) puts ∙ has_filled k (tree m) [] ∙ ap (λ (b : Bool). b || false) h in (
      same,
      λ one other c. none_clash n.seeds (keys_of n.pairs) own one other (clash_among m.own.seeds n.seeds (keys_of (tree m)) (keys_of n.pairs) (HashCollision one other) (sym same) held c),
      λ k. ap (λ (ps : Funcs). lookup (key_eq k) ps) puts ∙ first_filled_empty k (tree m),
      λ v. f.marks v ∙ (λ i. marks v i || some_in (declares_dynamic (seeds i) v) m),
      f.tells ∙ ap (λ (b : Bool). b || some_in declares_global m) tells,
    )

-- a refused index leaves the module as it was
refused_with : (A : Type 0) (old new : ModuleTree) (fault : DeclFault) → IsClash old.own.seeds (keys_of (tree old)) fault → new ≡ old → Indexes {A = A} old (Err fault) new
refused_with A old new (HashCollision held other) c same = (c, same)
refused_with A old new (IndexerNotAllowed key) c same = c
refused_with A old new NotCallable c same = c
refused_with A old new (UnknownNumber n m) c same = c
refused_with A old new OutOfMemory c same = same

pub index_refused : {A : Type 0} (old new : ModuleTree) (r : Result A DeclFault) (fault : DeclFault) → IsErr r × IsErrAnd r (λ f. f ≡ fault) → IsClash old.own.seeds (keys_of (tree old)) fault → new ≡ old → Indexes old r new
index_refused old new (Ok a) fault h c same = absurd h.1
index_refused {A} old new (Err f) fault h c same = subst (λ (g : DeclFault). Indexes {A = A} old (Err g) new) (sym h.1) (refused_with A old new fault c same)
