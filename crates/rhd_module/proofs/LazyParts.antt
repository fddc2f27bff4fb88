-- What is listed in a tree, by parts.
use Rattle.std.proofs.Common.{◌≡◌, Bool, true, false, cond, List, [], ◌∷◌, ◌++◌, refl, sym, ap, subst, ◌∙◌, ◌||◌, ◌⊎◌, arith, inl, inr}
use Rattle.std.proofs.lemmas.Bool.{cond-true, cond-false, or_parts}
use Rattle.std.proofs.lemmas.List.Elements.{Contains-append_left, Contains-append_right}
use Rattle.std.specs.declared.cmp.Ordering.TheVariants.{Less}
use Rattle.std.specs.Ordering.{nat_cmp, match_ordering}
use Rattle.std.specs.Cmp.Lexicographic.{slice_cmp}
use Rattle.std.specs.List.{AllByRecursion, Contains}
use Rattle.std.specs.List.Sorted.{IsStrictlySortedBy}
use Rattle.std.specs.Map.{keys_of}
use Rattle.std.specs.BTreeMap.{insert_entry}
use Rattle.rhd_value.specs.Tree.{Bytes}
use Rattle.rhd_decl.specs.declared.fault.DeclFault.{DeclFault}
use Rattle.rhd_decl.specs.declared.fault.DeclFault.TheVariants.{HashCollision, IndexerNotAllowed, NotCallable, UnknownNumber, OutOfMemory}
use Rattle.rhd_module.specs.Below.{lists_any, some_below, some_in}
use Rattle.rhd_table.specs.Indexed.{IsClash}
use Rattle.rhd_module.specs.Index.{indexed}
use Rattle.rhd_module.specs.Lazy.{with_registered, registered_subs, registered_tree, touched, touched_below, RegisterClash}
use Rattle.rhd_module.specs.Manifests.{registered_pairs}
use Rattle.rhd_module.specs.Tree.{ModuleTree, Subs, no_subs, sub, subs_of}
use Rattle.rhd_module.specs.Walk.{tree}
use Rattle.rhd_hash.specs.Table.{Clashing}
use Rattle.std.specs.declared.rc.Rc.{Rc}

-- what a sub-module in whose tree something is listed is after
abbrev pub renewed : ModuleTree → ModuleTree
renewed m = indexed (with_registered m (registered_subs m.subs))

-- what a sub-module is after
abbrev pub after : ModuleTree → ModuleTree
after m = cond (some_in lists_any m) (renewed m) m

abbrev pub IsBelow : Bytes → List Bytes → Type 0
IsBelow k ks = AllByRecursion (λ y. slice_cmp nat_cmp k y ≡ Less) ks

-- what all of two lists have, all of one after the other have
pub all_append : {A : Type 0} (P : A → Type 0) (xs ys : List A) → AllByRecursion P xs → AllByRecursion P ys → AllByRecursion P (xs ++ ys)
all_append P [] ys a b = b
all_append P (x ∷ xs) ys a b = (a.0, all_append P xs ys a.1 b)

module _ {Z : Type 0} where
  pub below_rest : (rest done : List (Bytes × Rc ModuleTree Z)) (x : Bytes × Rc ModuleTree Z) → IsStrictlySortedBy (slice_cmp nat_cmp) (keys_of (rest ++ x ∷ done)) → IsBelow x.0 (keys_of done)
  unfolding IsStrictlySortedBy
  below_rest [] done x s = s.0
  below_rest (r ∷ rest) done x s = below_rest rest done x s.1

  put_front : (es : List (Bytes × Rc ModuleTree Z)) (k : Bytes) (v : Rc ModuleTree Z) → IsBelow k (keys_of es) → insert_entry (slice_cmp nat_cmp) es k v ≡ (k, v) ∷ es
  put_front [] k v h = refl
  put_front (e ∷ es) k v h = λ i. match_ordering (h.0 i) ((k, v) ∷ e ∷ es) ((e.0, v) ∷ es) (e ∷ insert_entry (slice_cmp nat_cmp) es k v)

  -- a map holds the sub-modules after those of a list
  pub record Follows (es done : List (Bytes × Rc ModuleTree Z)) : Type 0 where
    pub names : keys_of es ≡ keys_of done
    pub subs : subs_of es ≡ registered_subs (subs_of done)

  pub follows_more : (es new done : List (Bytes × Rc ModuleTree Z)) (name : Bytes) (m v : Rc ModuleTree Z) → Follows es done → IsBelow name (keys_of done) → v.value ≡ after m.value →
      new ≡ insert_entry (slice_cmp nat_cmp) es name v → Follows new ((name, m) ∷ done)
  follows_more es new done name m v f h e p =
      let q : new ≡ (name, v) ∷ es = p ∙ put_front es name v (subst (IsBelow name) (sym f.names) h) in
      record {
        names = ap keys_of q ∙ ap (λ ks. name ∷ ks) f.names;
        subs = ap subs_of q ∙ (λ i. sub name (e i).own (e i).subs (f.subs i)) ∙ by (some_in lists_any m.value);
      }
    where
      by : (b : Bool) → sub name (cond b (renewed m.value) m.value).own (cond b (renewed m.value) m.value).subs (registered_subs (subs_of done))
          ≡ cond b (sub name (renewed m.value).own (renewed m.value).subs (registered_subs (subs_of done))) (sub name m.value.own m.value.subs (registered_subs (subs_of done)))
      by true = refl
      by false = refl

  -- the modules of one sub-module that are touched are among those of all
  pub touched_at : (front done : List (Bytes × Rc ModuleTree Z)) (x : Bytes × Rc ModuleTree Z) (t : ModuleTree) → Contains (touched x.1.value) t → Contains (touched_below (subs_of (front ++ x ∷ done))) t
  touched_at [] done x t h = Contains-append_left (touched x.1.value) (touched_below (subs_of done)) t h
  touched_at (f ∷ front) done x t h = Contains-append_right (touched f.1.value) (touched_below (subs_of (front ++ x ∷ done))) t (touched_at front done x t h)

  pub all_more : (P : ModuleTree → Type 0) (done : List (Bytes × Rc ModuleTree Z)) (x : Bytes × Rc ModuleTree Z) → AllByRecursion P (touched x.1.value) → AllByRecursion P (touched_below (subs_of done)) → AllByRecursion P (touched_below (subs_of (x ∷ done)))
  all_more P done x a b = all_append P (touched x.1.value) (touched_below (subs_of done)) a b

-- nothing is touched where nothing is listed
pub none_touched : (P : ModuleTree → Type 0) (m : ModuleTree) → some_in lists_any m ≡ false → AllByRecursion P (touched m)
none_touched P m e = subst (AllByRecursion P) (sym (cond-false (some_in lists_any m) (m ∷ touched_below m.subs) [] e)) tt

pub some_touched : (P : ModuleTree → Type 0) (m : ModuleTree) → some_in lists_any m ≡ true → P m → AllByRecursion P (touched_below m.subs) → AllByRecursion P (touched m)
some_touched P m e p more = subst (AllByRecursion P) (sym (cond-true (some_in lists_any m) (m ∷ touched_below m.subs) [] e)) (p, more)

pub after_listed : (m : ModuleTree) → some_in lists_any m ≡ true → renewed m ≡ after m
after_listed m h = sym (cond-true (some_in lists_any m) (renewed m) m h)

pub after_same : (m : ModuleTree) → some_in lists_any m ≡ false → m ≡ after m
after_same m h = sym (cond-false (some_in lists_any m) (renewed m) m h)

pub tree_listed : (m : ModuleTree) → some_in lists_any m ≡ true → with_registered m (registered_subs m.subs) ≡ registered_tree m
tree_listed m h = sym (cond-true (some_in lists_any m) (with_registered m (registered_subs m.subs)) m h)

pub tree_unlisted : (m : ModuleTree) → some_in lists_any m ≡ false → m ≡ registered_tree m
tree_unlisted m h = sym (cond-false (some_in lists_any m) (with_registered m (registered_subs m.subs)) m h)

-- a module in whose tree something is listed is touched itself, and so are those below it that are
pub self_touched : (m : ModuleTree) → some_in lists_any m ≡ true → Contains (touched m) m
self_touched m some = subst (λ (ts : List ModuleTree). Contains ts m) (sym (cond-true (some_in lists_any m) (m ∷ touched_below m.subs) [] some)) (0, omega arith, refl)

pub below_touched : (m t : ModuleTree) → some_in lists_any m ≡ true → Contains (touched_below m.subs) t → Contains (touched m) t
below_touched m t some h =
    subst (λ (ts : List ModuleTree). Contains ts t) (sym (cond-true (some_in lists_any m) (m ∷ touched_below m.subs) [] some)) (Contains-append_right (m ∷ []) (touched_below m.subs) t h)

-- a clash in one of some modules is one in more of them
pub clash_more : (tables trees more others : List ModuleTree) (fault : DeclFault) → ((t : ModuleTree) → Contains tables t → Contains more t) → ((t : ModuleTree) → Contains trees t → Contains others t) → RegisterClash tables trees fault → RegisterClash more others fault
clash_more tables trees more others (HashCollision held other) one two (inl c) = inl (c.0, one c.0 c.1, c.2)
clash_more tables trees more others (HashCollision held other) one two (inr c) = inr (c.0, two c.0 c.1, c.2)
clash_more tables trees more others (IndexerNotAllowed key) one two c = c
clash_more tables trees more others NotCallable one two c = c
clash_more tables trees more others (UnknownNumber n m) one two c = c
clash_more tables trees more others OutOfMemory one two c = tt

-- and so is one of a module that is registered
pub renewed_clash : (m : ModuleTree) (subs : Subs) (more : List ModuleTree) (fault : DeclFault) → subs ≡ registered_subs m.subs → some_in lists_any m ≡ true → ((t : ModuleTree) → Contains (touched m) t → Contains more t)
    → IsClash m.own.seeds (keys_of (registered_pairs m.own)) fault ⊎ IsClash m.own.seeds (keys_of (tree (with_registered m subs))) fault → RegisterClash more more fault
renewed_clash m subs more (HashCollision held other) is some within (inl c) = inl (m, within m (self_touched m some), c)
renewed_clash m subs more (HashCollision held other) is some within (inr c) =
    inr (m, within m (self_touched m some), subst (λ (n : ModuleTree). Clashing m.own.seeds (keys_of (tree n)) held other) (ap (with_registered m) is ∙ tree_listed m some) c)
renewed_clash m subs more (IndexerNotAllowed key) is some within (inl c) = c
renewed_clash m subs more (IndexerNotAllowed key) is some within (inr c) = c
renewed_clash m subs more NotCallable is some within (inl c) = c
renewed_clash m subs more NotCallable is some within (inr c) = c
renewed_clash m subs more (UnknownNumber n k) is some within (inl c) = c
renewed_clash m subs more (UnknownNumber n k) is some within (inr c) = c
renewed_clash m subs more OutOfMemory is some within c = tt

-- below a module in whose tree nothing is listed none is touched
pub below_untouched : (P : ModuleTree → Type 0) (subs : Subs) → some_below lists_any subs ≡ false → AllByRecursion P (touched_below subs)
below_untouched P no_subs e = tt
below_untouched P (sub name own subs later) e =
    let r = or_parts (lists_any own) (some_below lists_any subs || some_below lists_any later) e in
    let q = or_parts (some_below lists_any subs) (some_below lists_any later) r.1 in
    all_append P (touched (record { own = own; subs = subs })) (touched_below later)
    (none_touched P (record { own = own; subs = subs }) (ap (λ b. b || some_below lists_any subs) r.0 ∙ q.0)) (below_untouched P later q.1)

pub root_untouched : (P : ModuleTree → Type 0) (m : ModuleTree) → some_in lists_any m ≡ false → AllByRecursion P (touched_below m.subs)
root_untouched P m e = below_untouched P m.subs (or_parts (lists_any m.own) (some_below lists_any m.subs) e).1
