-- What is put under a name and then taken back leaves a map as it was.
use Rattle.std.proofs.Common.{◌≡◌, true, false, true≢false, cond, List, [], ◌∷◌, ◌++◌, reverse, subst, Option, None, Some, refl, sym, ap, ◌∙◌, Result, Ok, Err, OnOk, OnErr}
use Rattle.std.specs.BTreeMap.{insert_entry, is_at}
use Rattle.std.specs.Cmp.{nat_cmp_total}
use Rattle.std.specs.Cmp.Lexicographic.{slice_cmp, lists_total}
use Rattle.std.specs.List.{AllByRecursion}
use Rattle.std.specs.List.Sorted.{IsStrictlySortedBy}
use Rattle.std.specs.Map.{keys_of, lookup, remove_entry}
use Rattle.std.specs.Option.{is_some}
use Rattle.std.specs.Ordering.{match_ordering, nat_cmp, is_eq}
use Rattle.std.specs.declared.cmp.Ordering.{Ordering}
use Rattle.std.specs.declared.cmp.Ordering.TheVariants.{Less, Equal, Greater}
use Rattle.std.proofs.lemmas.Map.Text.{is_eq-slice_cmp}
use Rattle.std.proofs.lemmas.Slice.Eq.{bytes_eq-Decides}
use Rattle.std.proofs.lemmas.List.{reverse-append}
use Rattle.rhd_value.specs.Tree.{Bytes}
use Rattle.rhd_map.specs.Puts.{put_entries, at_name, IsPut}
use Rattle.rhd_map.proofs.MapOrder.{itself, again}

abbrev pub order : Bytes → Bytes → Ordering
order = slice_cmp nat_cmp

pub same_text : (x y : Bytes) → order x y ≡ Equal → x ≡ y
same_text x y h = (bytes_eq-Decides x y).0 (sym (is_eq-slice_cmp x y) ∙ ap is_eq h)

pub some_none : {A : Type 0} (x : A) → Some x ≡ None → ⊥
some_none x h = true≢false (ap is_some h)

same_some : {A : Type 0} (d x y : A) → Some x ≡ Some y → x ≡ y
same_some {A} d x y h = ap (λ (o : Option A). value d o) h
  where
    value : A → Option A → A
    value d None = d
    value d (Some v) = v

below_all : (n q : Bytes) (ks : List Bytes) → order n q ≡ Less → AllByRecursion (λ y. order q y ≡ Less) ks → AllByRecursion (λ y. order n y ≡ Less) ks
below_all n q [] less all = tt
below_all n q (y ∷ ks) less all = ((lists_total nat_cmp_total).trans n q y less all.0, below_all n q ks less all.1)

-- where a call can't fail, what it does where it doesn't holds
pub or_ok : {A B P Q : Type 0} (r : Result A B) → OnOk r P → OnErr r Q → (Q → ⊥) → P
or_ok (Ok a) done failed never = done
or_ok (Err b) done failed never = absurd (never failed)

module _ {V : Type 0} where
  -- what is put under a name stands there
  pub put_there : (n : Bytes) (v : V) (es : List (Bytes × V)) → lookup (is_at (order n)) (insert_entry order es n v) ≡ Some v
  put_there n v [] = λ i. cond (is_eq (itself order (lists_total nat_cmp_total) n i)) (Some v) None
  put_there n v (e ∷ es) = by (order n e.0) refl (put_there n v es)
    where
      here : (rest : List (Bytes × V)) → lookup (is_at (order n)) ((n, v) ∷ rest) ≡ Some v
      here rest = λ i. cond (is_eq (itself order (lists_total nat_cmp_total) n i)) (Some v) (lookup (is_at (order n)) rest)

      by : (s : Ordering) → order n e.0 ≡ s → lookup (is_at (order n)) (insert_entry order es n v) ≡ Some v
          → lookup (is_at (order n)) (match_ordering s ((n, v) ∷ e ∷ es) ((e.0, v) ∷ es) (e ∷ insert_entry order es n v)) ≡ Some v
      by Less s ih = here (e ∷ es)
      by Equal s ih = λ i. cond (is_eq (s i)) (Some v) (lookup (is_at (order n)) es)
      by Greater s ih = (λ i. cond (is_eq (s i)) (Some e.1) (lookup (is_at (order n)) (insert_entry order es n v))) ∙ ih

  -- a name under which nothing stood is free again
  pub removed : (n : Bytes) (v : V) (es : List (Bytes × V)) → lookup (is_at (order n)) es ≡ None → remove_entry (is_at (order n)) (insert_entry order es n v) ≡ es
  removed n v [] free = λ i. cond (is_eq (itself order (lists_total nat_cmp_total) n i)) [] ((n, v) ∷ [])
  removed n v (e ∷ es) free = by (order n e.0) refl free (removed n v es)
    where
      by : (s : Ordering) → order n e.0 ≡ s → cond (is_eq s) (Some e.1) (lookup (is_at (order n)) es) ≡ None
          → (lookup (is_at (order n)) es ≡ None → remove_entry (is_at (order n)) (insert_entry order es n v) ≡ es)
          → remove_entry (is_at (order n)) (match_ordering s ((n, v) ∷ e ∷ es) ((e.0, v) ∷ es) (e ∷ insert_entry order es n v)) ≡ e ∷ es
      by Less s free ih = λ i. cond (is_eq (itself order (lists_total nat_cmp_total) n i)) (e ∷ es) ((n, v) ∷ remove_entry (is_at (order n)) (e ∷ es))
      by Equal s free ih = absurd (some_none e.1 free)
      by Greater s free ih =
          (λ i. cond (is_eq (s i)) (insert_entry order es n v) (e ∷ remove_entry (is_at (order n)) (insert_entry order es n v))) ∙ ap (λ (fs : List (Bytes × V)). e ∷ fs) (ih free)

  -- nothing stands under a name that is below all
  below : (n : Bytes) (es : List (Bytes × V)) → AllByRecursion (λ y. order n y ≡ Less) (keys_of es) → lookup (is_at (order n)) es ≡ None
  below n [] all = refl
  below n (e ∷ es) all = (λ i. cond (is_eq (all.0 i)) (Some e.1) (lookup (is_at (order n)) es)) ∙ below n es all.1

  -- what stands there may be put there
  kept : (n : Bytes) (w : V) (es : List (Bytes × V)) → lookup (is_at (order n)) es ≡ Some w → IsStrictlySortedBy order (keys_of es) → insert_entry order es n w ≡ es
  unfolding IsStrictlySortedBy
  kept n w [] there sorted = absurd (some_none w (sym there))
  kept n w (e ∷ es) there sorted = by (order n e.0) refl there (λ h. kept n w es h sorted.1)
    where
      by : (s : Ordering) → order n e.0 ≡ s → cond (is_eq s) (Some e.1) (lookup (is_at (order n)) es) ≡ Some w → (lookup (is_at (order n)) es ≡ Some w → insert_entry order es n w ≡ es)
          → match_ordering s ((n, w) ∷ e ∷ es) ((e.0, w) ∷ es) (e ∷ insert_entry order es n w) ≡ e ∷ es
      by Less s there ih = absurd (some_none w (sym there ∙ below n es (below_all n e.0 (keys_of es) s sorted.0)))
      by Equal s there ih = λ i. (e.0, sym (same_some w e.1 w there) i) ∷ es
      by Greater s there ih = ap (λ (fs : List (Bytes × V)). e ∷ fs) (ih there)

  -- what stood there stands there again
  pub put_again : (n : Bytes) (v w : V) (es : List (Bytes × V)) → lookup (is_at (order n)) es ≡ Some w → IsStrictlySortedBy order (keys_of es) → insert_entry order (insert_entry order es n v) n w ≡ es
  put_again n v w es there sorted = again order (lists_total nat_cmp_total) same_text n w v es ∙ kept n w es there sorted

  -- one put in after others
  pub put_more : (ps : List (Bytes × V)) (p : Bytes × V) (es : List (Bytes × V)) → put_entries (ps ++ p ∷ []) es ≡ insert_entry order (put_entries ps es) p.0 p.1
  put_more [] p es = refl
  put_more (q ∷ ps) p es = put_more ps p (insert_entry order es q.0 q.1)

  -- and what is noted of it
  pub note_more : (was : List (Bytes × Option V)) (n : Bytes) (v : V) (before es after : List (Bytes × V)) (notes : List (Bytes × Option V)) → notes ≡ was ++ (n, at_name n es) ∷ []
      → IsPut (reverse was) before es → after ≡ insert_entry order es n v → IsStrictlySortedBy order (keys_of es) → IsPut (reverse notes) before after
  note_more was n v before es after notes is put more sorted =
      subst (λ (ns : List (Bytes × Option V)). IsPut ns before after) (sym (ap reverse is ∙ reverse-append was ((n, at_name n es) ∷ []))) (es, v, put, more, refl, sorted)
