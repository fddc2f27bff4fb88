-- A map that is read stands in ascending order of names.
use Rattle.std.proofs.Common.{◌≡◌, ℕ, List, [], ◌∷◌, Option, Some, None, Ordering, Less, Equal, Greater, refl, ap, subst, ◌∙◌}
use Rattle.std.specs.Ordering.{ordering_reverse, nat_cmp, match_ordering}
use Rattle.std.specs.Cmp.Lexicographic.{slice_cmp}
use Rattle.std.specs.List.{AllByRecursion}
use Rattle.std.specs.List.Sorted.{IsStrictlySortedBy}
use Rattle.std.specs.Map.{keys_of}
use Rattle.std.proofs.lemmas.Cmp.{nat_list_cmp_total}
use Rattle.rhd_value.specs.Tree.{Bytes, Tree}
use Rattle.rhd_value.specs.Entries.{found, put}
use Rattle.rhd_syntax.specs.Maps.{put_or_none, put_new, put_each}
use Rattle.rhd_syntax.specs.Spans.{Span, each, pair}
use Rattle.rhd_syntax.proofs.Agrees.{bind_some, same_some}

-- what holds of each entry
pub AllHold : (Bytes × Tree → Type 0) → List (Bytes × Tree) → Type 0
AllHold P [] = Unit {0}
AllHold P (e ∷ es) = P e × AllHold P es

pub no_entries_hold : (P : Bytes × Tree → Type 0) → AllHold P []
unfolding AllHold
no_entries_hold P = tt

pub first_holds : (P : Bytes × Tree → Type 0) (e : Bytes × Tree) (es : List (Bytes × Tree)) → AllHold P (e ∷ es) → P e × AllHold P es
unfolding AllHold
first_holds P e es h = h

-- an entry that is put in before, at or after the first
placed_holds : (P : Bytes × Tree → Type 0) (e p : Bytes × Tree) (es : List (Bytes × Tree)) (o : Ordering) → P p → P (e.0, p.1) → AllHold P (e ∷ es) → AllHold P (put p.0 p.1 es) → AllHold P (match_ordering o (p ∷ (e ∷ es)) ((e.0, p.1) ∷ es) (e ∷ put p.0 p.1 es))
unfolding AllHold
placed_holds P e p es Less here there h more = (here, h)
placed_holds P e p es Equal here there h more = (there, h.1)
placed_holds P e p es Greater here there h more = (h.0, more)

put_holds : (P : Bytes × Tree → Type 0) → ((e p : Bytes × Tree) → P e → P p → P (e.0, p.1)) → (p : Bytes × Tree) (es : List (Bytes × Tree)) → P p → AllHold P es → AllHold P (put p.0 p.1 es)
unfolding AllHold
put_holds P mix p [] here h = (here, tt)
put_holds P mix p (e ∷ es) here h = placed_holds P e p es (slice_cmp nat_cmp p.0 e.0) here (mix e p h.0 here) h (put_holds P mix p es here h.1)

-- ---- order

abbrev IsAscending : List (Bytes × Tree) → Type 0
IsAscending es = IsStrictlySortedBy (slice_cmp nat_cmp) (keys_of es)

abbrev Below : Bytes → List Bytes → Type 0
Below n ks = AllByRecursion (λ y. slice_cmp nat_cmp n y ≡ Less) ks

below_more : (n m : Bytes) (ks : List Bytes) → slice_cmp nat_cmp n m ≡ Less → Below m ks → Below n ks
below_more n m [] h b = tt
below_more n m (k ∷ ks) h b = (nat_list_cmp_total.trans n m k h b.0, below_more n m ks h b.1)

placed_below : (n : Bytes) (e p : Bytes × Tree) (es : List (Bytes × Tree)) (o : Ordering) → slice_cmp nat_cmp n p.0 ≡ Less → Below n (keys_of (e ∷ es)) → Below n (keys_of (put p.0 p.1 es)) → Below n (keys_of (match_ordering o (p ∷ (e ∷ es)) ((e.0, p.1) ∷ es) (e ∷ put p.0 p.1 es)))
placed_below n e p es Less h b more = (h, b)
placed_below n e p es Equal h b more = b
placed_below n e p es Greater h b more = (b.0, more)

put_below : (n : Bytes) (p : Bytes × Tree) (es : List (Bytes × Tree)) → slice_cmp nat_cmp n p.0 ≡ Less → Below n (keys_of es) → Below n (keys_of (put p.0 p.1 es))
put_below n p [] h b = (h, tt)
put_below n p (e ∷ es) h b = placed_below n e p es (slice_cmp nat_cmp p.0 e.0) h b (put_below n p es h b.1)

turned : (n m : Bytes) → slice_cmp nat_cmp n m ≡ Greater → slice_cmp nat_cmp m n ≡ Less
turned n m h = nat_list_cmp_total.antisymm m n ∙ ap ordering_reverse h

placed_ascending : (e p : Bytes × Tree) (es : List (Bytes × Tree)) (o : Ordering) → slice_cmp nat_cmp p.0 e.0 ≡ o → IsAscending (e ∷ es) → IsAscending (put p.0 p.1 es) → IsAscending (match_ordering o (p ∷ (e ∷ es)) ((e.0, p.1) ∷ es) (e ∷ put p.0 p.1 es))
unfolding IsStrictlySortedBy
placed_ascending e p es Less h s more = ((h, below_more p.0 e.0 (keys_of es) h s.0), s)
placed_ascending e p es Equal h s more = s
placed_ascending e p es Greater h s more = (put_below e.0 p es (turned p.0 e.0 h) s.0, more)

put_ascending : (p : Bytes × Tree) (es : List (Bytes × Tree)) → IsAscending es → IsAscending (put p.0 p.1 es)
unfolding IsStrictlySortedBy
put_ascending p [] s = (tt, tt)
put_ascending p (e ∷ es) s = placed_ascending e p es (slice_cmp nat_cmp p.0 e.0) refl s (put_ascending p es s.1)

-- ---- entries that are put in one after the other

new_is_put : (o : Option Tree) (p : Bytes × Tree) (es fs : List (Bytes × Tree)) → put_or_none o p es ≡ Some fs → put p.0 p.1 es ≡ fs
new_is_put None p es fs e = same_some (put p.0 p.1 es) fs e
new_is_put (Some t) p es fs e = absurd cc

pub each_ascending : (ps es fs : List (Bytes × Tree)) → put_each es ps ≡ Some fs → IsAscending es → IsAscending fs
each_ascending [] es fs e s = subst (λ (x : List (Bytes × Tree)). IsAscending x) (same_some es fs e) s
each_ascending (p ∷ ps) es fs e s =
    let a = bind_some (put_new p es) (λ more. put_each more ps) fs e in
    each_ascending ps a.0 fs a.2 (subst (λ (x : List (Bytes × Tree)). IsAscending x) (new_is_put (found p.0 es) p es a.0 a.1) (put_ascending p es s))

pub each_holds : (P : Bytes × Tree → Type 0) → ((e p : Bytes × Tree) → P e → P p → P (e.0, p.1)) → (ps es fs : List (Bytes × Tree)) → put_each es ps ≡ Some fs → AllHold P ps → AllHold P es → AllHold P fs
unfolding AllHold
each_holds P mix [] es fs e new old = subst (λ (x : List (Bytes × Tree)). AllHold P x) (same_some es fs e) old
each_holds P mix (p ∷ ps) es fs e new old =
    let a = bind_some (put_new p es) (λ more. put_each more ps) fs e in
    each_holds P mix ps a.0 fs a.2 new.1 (subst (λ (x : List (Bytes × Tree)). AllHold P x) (new_is_put (found p.0 es) p es a.0 a.1) (put_holds P mix p es new.0 old))

pub nothing_ascends : IsAscending []
unfolding IsStrictlySortedBy
nothing_ascends = tt

-- pairs that are written, of which something holds wherever one is written
pub pairs_hold : (P : Bytes × Tree → Type 0) (element : Tree → Span) → ((e : Bytes × Tree) (bytes rest : List ℕ) → pair element e bytes rest → P e) → (ps : List (Bytes × Tree)) (bytes rest : List ℕ) → each (pair element) ps bytes rest → AllHold P ps
unfolding AllHold
pairs_hold P element one [] bytes rest w = tt
pairs_hold P element one (p ∷ ps) bytes rest w = (one p bytes w.0 w.1, pairs_hold P element one ps w.0 rest w.2)
