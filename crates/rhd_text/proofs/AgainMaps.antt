-- Entries in ascending order make the map that they are.
use Rattle.std.proofs.Common.{◌≡◌, List, [], ◌∷◌, ◌++◌, Option, Some, None, refl, sym, ap, ◌∙◌, append_assoc}
use Rattle.std.specs.Prelude.{option_and_then}
use Rattle.std.proofs.Common.{Less, Greater}
use Rattle.std.specs.Ordering.{ordering_reverse, nat_cmp}
use Rattle.std.specs.Cmp.Lexicographic.{slice_cmp}
use Rattle.std.specs.List.{AllByRecursion}
use Rattle.std.specs.List.Sorted.{IsStrictlySortedBy}
use Rattle.std.specs.Map.{keys_of}
use Rattle.std.proofs.lemmas.Cmp.{nat_list_cmp_total}
use Rattle.std.proofs.lemmas.List.{append-nil}
use Rattle.rhd_value.specs.Tree.{Bytes, Tree}
use Rattle.rhd_value.specs.Entries.{found, put}
use Rattle.rhd_syntax.specs.Maps.{put_new, put_each}

-- a name that stands after those of a map
pub After : List (Bytes × Tree) → Bytes → Type 0
After [] n = Unit {0}
After (e ∷ es) n = (slice_cmp nat_cmp n e.0 ≡ Greater) × After es n

pub AllAfter : List (Bytes × Tree) → List (Bytes × Tree) → Type 0
AllAfter es [] = Unit {0}
AllAfter es (p ∷ ps) = After es p.0 × AllAfter es ps

not_found : (es : List (Bytes × Tree)) (n : Bytes) → After es n → found n es ≡ None
unfolding After
not_found [] n a = refl
not_found (e ∷ es) n a = rw a.0 (not_found es n a.1)

put_last : (es : List (Bytes × Tree)) (n : Bytes) (t : Tree) → After es n → put n t es ≡ es ++ (n, t) ∷ []
unfolding After
put_last [] n t a = refl
put_last (e ∷ es) n t a = rw a.0 (ap (λ (fs : List (Bytes × Tree)). e ∷ fs) (put_last es n t a.1))

after_more : (es : List (Bytes × Tree)) (p : Bytes × Tree) (n : Bytes) → After es n → slice_cmp nat_cmp p.0 n ≡ Less → After (es ++ p ∷ []) n
unfolding After
after_more [] p n a h = (nat_list_cmp_total.antisymm n p.0 ∙ ap ordering_reverse h, tt)
after_more (e ∷ es) p n a h = (a.0, after_more es p n a.1 h)

all_after_more : (es ps : List (Bytes × Tree)) (p : Bytes × Tree) → AllAfter es ps → AllByRecursion (λ y. slice_cmp nat_cmp p.0 y ≡ Less) (keys_of ps) → AllAfter (es ++ p ∷ []) ps
unfolding AllAfter
all_after_more es [] p a h = tt
all_after_more es (q ∷ ps) p a h = (after_more es p q.0 a.0 h.0, all_after_more es ps p a.1 h.1)

ascending : (ps es : List (Bytes × Tree)) → IsStrictlySortedBy (slice_cmp nat_cmp) (keys_of ps) → AllAfter es ps → put_each es ps ≡ Some (es ++ ps)
unfolding AllAfter IsStrictlySortedBy
ascending [] es s a = ap (λ (fs : List (Bytes × Tree)). Some fs) (sym (append-nil es))
ascending (p ∷ ps) es s a =
    let n : put_new p es ≡ Some (es ++ p ∷ []) = rw (not_found es p.0 a.0) (ap (λ (fs : List (Bytes × Tree)). Some fs) (put_last es p.0 p.1 a.0)) in
    ap (λ (o : Option (List (Bytes × Tree))). option_and_then (λ more. put_each more ps) o) n
    ∙ ascending ps (es ++ p ∷ []) s.1 (all_after_more es ps p a.1 s.0)
    ∙ ap (λ (fs : List (Bytes × Tree)). Some fs) (append_assoc es (p ∷ []) ps)

none_after : (ps : List (Bytes × Tree)) → AllAfter [] ps
unfolding After AllAfter
none_after [] = tt
none_after (p ∷ ps) = (tt, none_after ps)

pub ascending_again : (ps : List (Bytes × Tree)) → IsStrictlySortedBy (slice_cmp nat_cmp) (keys_of ps) → put_each [] ps ≡ Some ps
ascending_again ps s = ascending ps [] s (none_after ps)
