-- Entries put into a map in ascending order of key: in which order they may be put in.
use Rattle.std.proofs.Common.{◌≡◌, true, false, true≢false, List, [], ◌∷◌, refl, sym, ap, ◌∙◌}
use Rattle.std.specs.BTreeMap.{insert_entry}
use Rattle.std.specs.Cmp.{IsTotalOrder}
use Rattle.std.specs.List.{AllByRecursion}
use Rattle.std.specs.List.Sorted.{IsStrictlySortedBy}
use Rattle.std.specs.Map.{keys_of}
use Rattle.std.specs.Ordering.{match_ordering, ordering_reverse}
use Rattle.std.specs.declared.cmp.Ordering.{Ordering}
use Rattle.std.specs.declared.cmp.Ordering.TheVariants.{Less, Equal, Greater}

less_equal : Less ≡ Equal → ⊥
less_equal h = true≢false (ap (λ o. match_ordering o true false false) h)

less_greater : Less ≡ Greater → ⊥
less_greater h = true≢false (ap (λ o. match_ordering o true false false) h)

module _ {K : Type 0} (R : K → K → Ordering) (o : IsTotalOrder R) where
  pub itself : (k : K) → R k k ≡ Equal
  itself k = by (R k k) (o.antisymm k k)
    where
      by : (r : Ordering) → r ≡ ordering_reverse r → r ≡ Equal
      by Less h = absurd (less_greater h)
      by Equal h = refl
      by Greater h = absurd (less_greater (sym h))

  pub back : (x y : K) (r : Ordering) → R x y ≡ r → R y x ≡ ordering_reverse r
  back x y r h = o.antisymm y x ∙ ap ordering_reverse h

  pub all_trans : (k q : K) (ks : List K) → R k q ≡ Less → AllByRecursion (λ y. R q y ≡ Less) ks → AllByRecursion (λ y. R k y ≡ Less) ks
  all_trans k q [] less below = tt
  all_trans k q (y ∷ ks) less below = (o.trans k q y less below.0, all_trans k q ks less below.1)

module _ {K X : Type 0} (R : K → K → Ordering) (o : IsTotalOrder R) (same : (x y : K) → R x y ≡ Equal → x ≡ y) where
  -- entries put in one after the other
  abbrev pub put_entries : List (K × X) → List (K × X) → List (K × X)
  put_entries [] es = es
  put_entries (p ∷ ps) es = put_entries ps (insert_entry R es p.0 p.1)

  abbrev one : K → X → List (K × X)
  one k d = (k, d) ∷ []

  abbrev two : K → X → K → X → List (K × X)
  two k d q e = (k, d) ∷ (q, e) ∷ []

  -- of two keys the one that is below may be put first
  swap : (k q : K) (d e : X) (x : List (K × X)) → R k q ≡ Less → insert_entry R (insert_entry R x q e) k d ≡ insert_entry R (insert_entry R x k d) q e
  swap k q d e [] less = (λ i. match_ordering (less i) (two k d q e) (one q d) (two q e k d)) ∙ (λ i. match_ordering (sym (back R o k q Less less) i) (two q e k d) (one k e) (two k d q e))
  swap k q d e (r ∷ rs) less = by (R k r.0) refl (R q r.0) refl (swap k q d e rs less)
    where
      with_q : List (K × X)
      with_q = insert_entry R rs q e

      with_k : List (K × X)
      with_k = insert_entry R rs k d

      above : R q k ≡ Greater
      above = back R o k q Less less

      first : (t : Ordering) → R q r.0 ≡ t → (xs : List (K × X)) → xs ≡ match_ordering t ((q, e) ∷ r ∷ rs) ((r.0, e) ∷ rs) (r ∷ with_q) → (k, d) ∷ xs ≡ insert_entry R ((k, d) ∷ r ∷ rs) q e
      first t h xs is = ap (λ (ys : List (K × X)). (k, d) ∷ ys) (is ∙ (λ i. match_ordering (sym h i) ((q, e) ∷ r ∷ rs) ((r.0, e) ∷ rs) (r ∷ with_q))) ∙ (λ i. match_ordering (sym above i) ((q, e) ∷ (k, d) ∷ r ∷ rs) ((k, e) ∷ r ∷ rs) ((k, d) ∷ insert_entry R (r ∷ rs) q e))

      by : (s : Ordering) → R k r.0 ≡ s → (t : Ordering) → R q r.0 ≡ t → insert_entry R with_q k d ≡ insert_entry R with_k q e
          → insert_entry R (match_ordering t ((q, e) ∷ r ∷ rs) ((r.0, e) ∷ rs) (r ∷ with_q)) k d ≡ insert_entry R (match_ordering s ((k, d) ∷ r ∷ rs) ((r.0, d) ∷ rs) (r ∷ with_k)) q e
      by Less s Less t ih = (λ i. match_ordering (less i) ((k, d) ∷ (q, e) ∷ r ∷ rs) ((q, d) ∷ r ∷ rs) ((q, e) ∷ insert_entry R (r ∷ rs) k d)) ∙ first Less t ((q, e) ∷ r ∷ rs) refl
      by Less s Equal t ih = (λ i. match_ordering (s i) ((k, d) ∷ (r.0, e) ∷ rs) ((r.0, d) ∷ rs) ((r.0, e) ∷ with_k)) ∙ first Equal t ((r.0, e) ∷ rs) refl
      by Less s Greater t ih = (λ i. match_ordering (s i) ((k, d) ∷ r ∷ with_q) ((r.0, d) ∷ with_q) (r ∷ insert_entry R with_q k d)) ∙ first Greater t (r ∷ with_q) refl
      by Equal s Greater t ih =
          (λ i. match_ordering (s i) ((k, d) ∷ r ∷ with_q) ((r.0, d) ∷ with_q) (r ∷ insert_entry R with_q k d)) ∙ (λ i. match_ordering (sym t i) ((q, e) ∷ (r.0, d) ∷ rs) ((r.0, e) ∷ rs) ((r.0, d) ∷ with_q))
      by Greater s Greater t ih =
          (λ i. match_ordering (s i) ((k, d) ∷ r ∷ with_q) ((r.0, d) ∷ with_q) (r ∷ insert_entry R with_q k d)) ∙ ap (λ (ys : List (K × X)). r ∷ ys) ih ∙ (λ i. match_ordering (sym t i) ((q, e) ∷ r ∷ with_k) ((r.0, e) ∷ with_k) (r ∷ insert_entry R with_k q e))
      by Equal s Less t ih = absurd (less_greater (sym less ∙ o.congr k r.0 q s ∙ back R o q r.0 Less t))
      by Equal s Equal t ih = absurd (less_equal (sym less ∙ o.congr k r.0 q s ∙ back R o q r.0 Equal t))
      by Greater s Less t ih = absurd (less_greater (sym (o.trans k q r.0 less t) ∙ s))
      by Greater s Equal t ih = absurd (less_greater (sym (back R o k r.0 Greater s) ∙ sym (o.congr q r.0 k t) ∙ above))

  -- of one key the later one stays
  pub again : (k : K) (d e : X) (x : List (K × X)) → insert_entry R (insert_entry R x k e) k d ≡ insert_entry R x k d
  again k d e [] = λ i. match_ordering (itself R o k i) (two k d k e) (one k d) (two k e k d)
  again k d e (r ∷ rs) = by (R k r.0) refl (again k d e rs)
    where
      by : (s : Ordering) → R k r.0 ≡ s → insert_entry R (insert_entry R rs k e) k d ≡ insert_entry R rs k d
          → insert_entry R (match_ordering s ((k, e) ∷ r ∷ rs) ((r.0, e) ∷ rs) (r ∷ insert_entry R rs k e)) k d ≡ match_ordering s ((k, d) ∷ r ∷ rs) ((r.0, d) ∷ rs) (r ∷ insert_entry R rs k d)
      by Less s ih = λ i. match_ordering (itself R o k i) ((k, d) ∷ (k, e) ∷ r ∷ rs) ((k, d) ∷ r ∷ rs) ((k, e) ∷ insert_entry R (r ∷ rs) k d)
      by Equal s ih = λ i. match_ordering (s i) ((k, d) ∷ (r.0, e) ∷ rs) ((r.0, d) ∷ rs) ((r.0, e) ∷ insert_entry R rs k d)
      by Greater s ih = (λ i. match_ordering (s i) ((k, d) ∷ r ∷ insert_entry R rs k e) ((r.0, d) ∷ insert_entry R rs k e) (r ∷ insert_entry R (insert_entry R rs k e) k d)) ∙ ap (λ (ys : List (K × X)). r ∷ ys) ih

  -- one may be put before others that are above it
  past : (k : K) (d : X) (ps x : List (K × X)) → AllByRecursion (λ q. R k q ≡ Less) (keys_of ps) → insert_entry R (put_entries ps x) k d ≡ put_entries ps (insert_entry R x k d)
  past k d [] x below = refl
  past k d (p ∷ ps) x below = past k d ps (insert_entry R x p.0 p.1) below.1 ∙ ap (put_entries ps) (swap k p.0 d p.1 x below.0)

  -- one put into others before these are put is as one put after them
  through : (k : K) (d : X) (b a : List (K × X)) → IsStrictlySortedBy R (keys_of b) → put_entries (insert_entry R b k d) a ≡ insert_entry R (put_entries b a) k d
  unfolding IsStrictlySortedBy
  through k d [] a sorted = refl
  through k d (p ∷ ps) a sorted = by (R k p.0) refl (through k d ps (insert_entry R a p.0 p.1) sorted.1)
    where
      by : (s : Ordering) → R k p.0 ≡ s → put_entries (insert_entry R ps k d) (insert_entry R a p.0 p.1) ≡ insert_entry R (put_entries ps (insert_entry R a p.0 p.1)) k d
          → put_entries (match_ordering s ((k, d) ∷ p ∷ ps) ((p.0, d) ∷ ps) (p ∷ insert_entry R ps k d)) a ≡ insert_entry R (put_entries ps (insert_entry R a p.0 p.1)) k d
      by Less s ih = sym (past k d ps (insert_entry R a p.0 p.1) (all_trans R o k p.0 (keys_of ps) s sorted.0) ∙ ap (put_entries ps) (swap k p.0 d p.1 a s))
      by Equal s ih =
          let is : p.0 ≡ k = sym (same k p.0 s) in
          ap (put_entries ps) (sym (again p.0 d p.1 a)) ∙ sym (past p.0 d ps (insert_entry R a p.0 p.1) sorted.0) ∙ ap (λ q. insert_entry R (put_entries ps (insert_entry R a p.0 p.1)) q d) is
      by Greater s ih = ih

  all_inserted : (P : K → Type 0) (k : K) (d : X) (es : List (K × X)) → P k → AllByRecursion P (keys_of es) → AllByRecursion P (keys_of (insert_entry R es k d))
  all_inserted P k d [] here all = (here, tt)
  all_inserted P k d (e ∷ es) here all = by (R k e.0) (all_inserted P k d es here all.1)
    where
      by : (s : Ordering) → AllByRecursion P (keys_of (insert_entry R es k d)) → AllByRecursion P (keys_of (match_ordering s ((k, d) ∷ e ∷ es) ((e.0, d) ∷ es) (e ∷ insert_entry R es k d)))
      by Less more = (here, all)
      by Equal more = all
      by Greater more = (all.0, more)

  pub sorted_inserted : (k : K) (d : X) (es : List (K × X)) → IsStrictlySortedBy R (keys_of es) → IsStrictlySortedBy R (keys_of (insert_entry R es k d))
  unfolding IsStrictlySortedBy
  sorted_inserted k d [] sorted = (tt, tt)
  sorted_inserted k d (e ∷ es) sorted = by (R k e.0) refl (sorted_inserted k d es sorted.1)
    where
      by : (s : Ordering) → R k e.0 ≡ s → IsStrictlySortedBy R (keys_of (insert_entry R es k d)) → IsStrictlySortedBy R (keys_of (match_ordering s ((k, d) ∷ e ∷ es) ((e.0, d) ∷ es) (e ∷ insert_entry R es k d)))
      by Less s more = ((s, all_trans R o k e.0 (keys_of es) s sorted.0), sorted)
      by Equal s more = sorted
      by Greater s more = (all_inserted (λ y. R e.0 y ≡ Less) k d es (back R o k e.0 Greater s) sorted.0, more)

  -- entries may be put in one after the other, or first into one another
  pub entries_through : (c b a : List (K × X)) → IsStrictlySortedBy R (keys_of b) → put_entries c (put_entries b a) ≡ put_entries (put_entries c b) a
  entries_through [] b a sorted = refl
  entries_through (p ∷ ps) b a sorted = ap (put_entries ps) (sym (through p.0 p.1 b a sorted)) ∙ entries_through ps (insert_entry R b p.0 p.1) a (sorted_inserted p.0 p.1 b sorted)
