-- The walk over the places of a pattern, over any look-up, and where no pattern is found.
use Rattle.std.proofs.Common.{◌≡◌, ◌≤◌, ◌<◌, ℕ, ◌+◌, ◌-◌, Bool, true, false, ◌&&◌, ◌||◌, ◌==◌, List, [], ◌∷◌, ◌++◌, length, map, take, drop, get_or, set, refl, sym, ap, ◌∙◌, arith, append_assoc}
use Rattle.std.specs.Prelude.{zero, suc, Option, Some, None, is_some}
use Rattle.std.specs.Option.{option_or}
use Rattle.std.proofs.lemmas.List.{take-append-drop, length-drop, take_more, take_more_set, drop-set-lt}
use Rattle.std.proofs.lemmas.Bool.Decides.{Decides-eqb}
use Rattle.std.proofs.Math.Seq.{drop-cons}
use Rattle.rhd_value.specs.Firsts.{first_of}
use Rattle.rhd_value.specs.Same.{tag_eq, tag_eq-Decides}
use Rattle.rhd_value.specs.declared.tag.TypeTag.{TypeTag}
use Rattle.rhd_value.specs.declared.tag.TypeTag.TheVariants.{Dynamic}
use Rattle.rhd_hash.specs.Matching.{types_match}
use Rattle.rhd_call.specs.declared.pick.Pick.{Pick}
use Rattle.rhd_layers.proofs.Bools.{parts}
use Rattle.rhd_dispatch.specs.Patterns.{patterns_to}
use Rattle.rhd_dispatch.specs.Walks.{first_match, any_dynamic}
use Rattle.rhd_dispatch.proofs.Firsts.{or_none, or_nones, or_found, of_append, of_map}

-- One place more.

chosen_next : (look : List TypeTag → Option Pick) (chosen : List TypeTag) (t : TypeTag) (ps : List (List TypeTag)) → first_of (λ types. look (chosen ++ types)) (map (λ p. t ∷ p) ps) ≡ first_of (λ types. look ((chosen ++ t ∷ []) ++ types)) ps
chosen_next look chosen t ps =
    of_map (λ types. look (chosen ++ types)) (λ p. t ∷ p) ps
    ∙ ap (λ (f : List TypeTag → Option Pick). first_of f ps) (λ i types. look (sym (append_assoc chosen (t ∷ []) types) i))

pub walk_step : (look : List TypeTag → Option Pick) (chosen : List TypeTag) (n : ℕ) (t : TypeTag) (ts : List TypeTag) →
    first_match look chosen (suc n) (t ∷ ts) ≡ option_or (first_match look (chosen ++ t ∷ []) n ts) (first_match look (chosen ++ Dynamic ∷ []) n ts)
unfolding patterns_to
walk_step look chosen n t ts =
    of_append (λ types. look (chosen ++ types)) (map (λ p. t ∷ p) (patterns_to n ts)) (map (λ p. Dynamic ∷ p) (patterns_to n ts))
    ∙ (λ i. option_or (chosen_next look chosen t (patterns_to n ts) i) (chosen_next look chosen Dynamic (patterns_to n ts) i))

-- the last place
pub walk_ends : (look : List TypeTag → Option Pick) (chosen : List TypeTag) (n : ℕ) (ts : List TypeTag) → (n ≡ 0) → first_match look chosen n ts ≡ look (chosen ++ ts)
unfolding patterns_to
walk_ends look chosen zero [] h = or_none (look (chosen ++ []))
walk_ends look chosen zero (t ∷ ts) h = or_none (look (chosen ++ t ∷ ts))
walk_ends look chosen (suc n) ts h = absurd (omega arith)

pub walk_empty : (look : List TypeTag → Option Pick) (chosen : List TypeTag) (n : ℕ) (ts : List TypeTag) → (length ts ≡ 0) → first_match look chosen n ts ≡ look (chosen ++ ts)
unfolding patterns_to
walk_empty look chosen n [] h = or_none (look (chosen ++ []))
walk_empty look chosen n (t ∷ ts) h = absurd (omega arith)

-- the exact types come first
exact_first : (n : ℕ) (ts : List TypeTag) → (more : List (List TypeTag)) × (patterns_to n ts ≡ ts ∷ more)
unfolding patterns_to
exact_first n [] = ([], refl)
exact_first zero (t ∷ ts) = ([], refl)
exact_first (suc n) (t ∷ ts) =
    let r = exact_first n ts in
    (map (λ p. t ∷ p) r.0 ++ map (λ p. Dynamic ∷ p) (patterns_to n ts), ap (λ (ps : List (List TypeTag)). map (λ p. t ∷ p) ps ++ map (λ p. Dynamic ∷ p) (patterns_to n ts)) r.1)

pub exact_found : (look : List TypeTag → Option Pick) (n : ℕ) (ts : List TypeTag) (pick : Pick) → look ts ≡ Some pick → first_match look [] n ts ≡ Some pick
exact_found look n ts pick h =
    let r = exact_first n ts in
    ap (first_of look) r.1 ∙ or_found (look ts) (first_of look r.0) pick h

-- Where nothing matches.

pub same_tag : (t : TypeTag) → tag_eq t t ≡ true
same_tag t = (tag_eq-Decides t t).1 refl

pub or_true : (b : Bool) → (b || true) ≡ true
or_true true = refl
or_true false = refl

types_self : (n : ℕ) (ts : List TypeTag) → types_match n ts ts ≡ true
types_self n [] = refl
types_self n (t ∷ ts) = ap (λ (b : Bool). (b || ((n == 0) && tag_eq t Dynamic)) && types_match (n - 1) ts ts) (same_tag t) ∙ types_self (n - 1) ts

kept_matches : (t : TypeTag) (types ts : List TypeTag) → types_match 0 types ts ≡ true → types_match 0 (t ∷ types) (t ∷ ts) ≡ true
kept_matches t types ts h = ap (λ (b : Bool). (b || tag_eq t Dynamic) && types_match 0 types ts) (same_tag t) ∙ h

any_matches : (t : TypeTag) (types ts : List TypeTag) → types_match 0 types ts ≡ true → types_match 0 (Dynamic ∷ types) (t ∷ ts) ≡ true
any_matches t types ts h = ap (λ (b : Bool). b && types_match 0 types ts) (or_true (tag_eq Dynamic t)) ∙ h

-- a pattern matches
pub none_matches : (look : List TypeTag → Option Pick) (chosen : List TypeTag) (n : ℕ) (ts : List TypeTag) → ((types : List TypeTag) → types_match 0 types ts ≡ true → look (chosen ++ types) ≡ None) → first_match look chosen n ts ≡ None
unfolding patterns_to
none_matches look chosen n [] h = or_nones (look (chosen ++ [])) None (h [] refl) refl
none_matches look chosen zero (t ∷ ts) h = or_nones (look (chosen ++ t ∷ ts)) None (h (t ∷ ts) (types_self 0 (t ∷ ts))) refl
none_matches look chosen (suc n) (t ∷ ts) h =
    walk_step look chosen n t ts
    ∙ or_nones (first_match look (chosen ++ t ∷ []) n ts) (first_match look (chosen ++ Dynamic ∷ []) n ts)
    (none_matches look (chosen ++ t ∷ []) n ts (λ types m. ap look (append_assoc chosen (t ∷ []) types) ∙ h (t ∷ types) (kept_matches t types ts m)))
    (none_matches look (chosen ++ Dynamic ∷ []) n ts (λ types m. ap look (append_assoc chosen (Dynamic ∷ []) types) ∙ h (Dynamic ∷ types) (any_matches t types ts m)))

-- the exact types before a place match
prefix_matches : (n : ℕ) (kinds types : List TypeTag) → n ≤ length kinds → types_match n (take n kinds ++ types) kinds ≡ types_match 0 types (drop n kinds)
prefix_matches zero kinds types h = refl
prefix_matches (suc n) [] types h = absurd (omega arith)
prefix_matches (suc n) (k ∷ kinds) types h =
    let e : suc n - 1 ≡ n = omega arith in
    (λ i. (same_tag k i || ((suc n == 0) && tag_eq k Dynamic)) && types_match (e i) (take n kinds ++ types) kinds) ∙ prefix_matches n kinds types (omega arith)

-- no pattern is found where the test says that nothing may match
pub walk_prunes : (look : List TypeTag → Option Pick) (kinds : List TypeTag) (place n : ℕ) → place ≤ length kinds → ((types : List TypeTag) → types_match place types kinds ≡ true → look types ≡ None) → first_match look (take place kinds) n (drop place kinds) ≡ None
walk_prunes look kinds place n within h =
    none_matches look (take place kinds) n (drop place kinds) (λ types matches. h (take place kinds ++ types) (prefix_matches place kinds types within ∙ matches))

-- the places that a walk has passed
pub walk_last : (look : List TypeTag → Option Pick) (kinds : List TypeTag) (place : ℕ) (o : Option Pick) → 16 ≤ place → o ≡ look kinds → o ≡ first_match look (take place kinds) (16 - place) (drop place kinds)
walk_last look kinds place o h is =
    let z : 16 - place ≡ 0 = omega arith in
    is ∙ ap look (sym (take-append-drop place kinds)) ∙ sym (walk_ends look (take place kinds) (16 - place) (drop place kinds) z)

pub walk_over : (look : List TypeTag → Option Pick) (kinds : List TypeTag) (place : ℕ) (o : Option Pick) → length kinds ≤ place → o ≡ look kinds → o ≡ first_match look (take place kinds) (16 - place) (drop place kinds)
walk_over look kinds place o h is =
    let z : length (drop place kinds) ≡ 0 = omega (arith, length-drop place kinds) in
    is ∙ ap look (sym (take-append-drop place kinds)) ∙ sym (walk_empty look (take place kinds) (16 - place) (drop place kinds) z)

-- one place on, in a list of which only that place may differ
on_by : (look : List TypeTag → Option Pick) (kinds : List TypeTag) (place : ℕ) (t : TypeTag) → place < 16 → place < length kinds → t ≡ get_or kinds place t →
    first_match look (take place kinds) (16 - place) (drop place kinds) ≡ option_or (first_match look (take (place + 1) kinds) (16 - (place + 1)) (drop (place + 1) kinds)) (first_match look (take (place + 1) (set kinds place Dynamic)) (16 - (place + 1)) (drop (place + 1) (set kinds place Dynamic)))
on_by look kinds place t small within is =
    let a : 16 - place ≡ suc (15 - place) = omega arith in
    let b : 15 - place ≡ 16 - (place + 1) = omega arith in
    let s : suc place ≡ place + 1 = omega arith in
    let d : drop place kinds ≡ t ∷ drop (place + 1) kinds = drop-cons kinds place t within ∙ (λ i. sym is i ∷ drop (s i) kinds) in
    let k : take place kinds ++ t ∷ [] ≡ take (place + 1) kinds = sym (take_more kinds place t within ∙ ap (λ (x : TypeTag). take place kinds ++ x ∷ []) (sym is)) in
    let l : take place kinds ++ Dynamic ∷ [] ≡ take (place + 1) (set kinds place Dynamic) = sym (take_more_set kinds place Dynamic within) in
    let r : drop (place + 1) kinds ≡ drop (place + 1) (set kinds place Dynamic) = sym (drop-set-lt (place + 1) kinds place Dynamic (omega arith)) in
    (λ i. first_match look (take place kinds) (a i) (d i)) ∙ walk_step look (take place kinds) (15 - place) t (drop (place + 1) kinds)
    ∙ (λ i. option_or (first_match look (k i) (b i) (drop (place + 1) kinds)) (first_match look (l i) (b i) (r i)))

-- the walk with the exact type found it, or else that with `Dynamic`
pub walk_found : (look : List TypeTag → Option Pick) (kinds : List TypeTag) (place : ℕ) (t : TypeTag) (o : Option Pick) → place < 16 → place < length kinds → t ≡ get_or kinds place t
    → o ≡ first_match look (take (place + 1) kinds) (16 - (place + 1)) (drop (place + 1) kinds) → is_some o ≡ true → o ≡ first_match look (take place kinds) (16 - place) (drop place kinds)
walk_found look kinds place t None small within is h some = absurd cc
walk_found look kinds place t (Some pick) small within is h some = sym (on_by look kinds place t small within is ∙ ap (λ (o : Option Pick). option_or o (first_match look (take (place + 1) (set kinds place Dynamic)) (16 - (place + 1)) (drop (place + 1) (set kinds place Dynamic)))) (sym h))

walk_passed : (look : List TypeTag → Option Pick) (kinds : List TypeTag) (place : ℕ) (t : TypeTag) (o last : Option Pick) → place < 16 → place < length kinds → t ≡ get_or kinds place t
    → o ≡ first_match look (take (place + 1) kinds) (16 - (place + 1)) (drop (place + 1) kinds) → is_some o ≡ false
    → last ≡ first_match look (take (place + 1) (set kinds place Dynamic)) (16 - (place + 1)) (drop (place + 1) (set kinds place Dynamic)) → last ≡ first_match look (take place kinds) (16 - place) (drop place kinds)
walk_passed look kinds place t (Some pick) last small within is h none e = absurd cc
walk_passed look kinds place t None last small within is h none e = e ∙ sym (on_by look kinds place t small within is ∙ ap (λ (o : Option Pick). option_or o (first_match look (take (place + 1) (set kinds place Dynamic)) (16 - (place + 1)) (drop (place + 1) (set kinds place Dynamic)))) (sym h))

-- a type is put back
pub put_back : (kinds : List TypeTag) (place : ℕ) (t : TypeTag) → place < length kinds → t ≡ get_or kinds place t → set (set kinds place Dynamic) place t ≡ kinds
put_back [] place t h is = absurd (omega arith)
put_back (k ∷ kinds) zero t h is = ap (λ (x : TypeTag). x ∷ kinds) is
put_back (k ∷ kinds) (suc place) t h is = ap (λ (ks : List TypeTag). k ∷ ks) (put_back kinds place t (omega arith) is)

-- the same where a call gave the types back before that place was changed
pub walk_changed : (look : List TypeTag → Option Pick) (kinds same : List TypeTag) (place : ℕ) (t : TypeTag) (o last : Option Pick) → place < 16 → place < length kinds → t ≡ get_or kinds place t → same ≡ kinds
    → o ≡ first_match look (take (place + 1) kinds) (16 - (place + 1)) (drop (place + 1) kinds) → is_some o ≡ false
    → last ≡ first_match look (take (place + 1) (set same place Dynamic)) (16 - (place + 1)) (drop (place + 1) (set same place Dynamic)) → last ≡ first_match look (take place kinds) (16 - place) (drop place kinds)
walk_changed look kinds same place t o last small within is k h none e =
    walk_passed look kinds place t o last small within is h none (e ∙ ap (λ (ks : List TypeTag). first_match look (take (place + 1) (set ks place Dynamic)) (16 - (place + 1)) (drop (place + 1) (set ks place Dynamic))) k)

-- nothing is asked again at the last place, where there is nothing for the exact types
pub walk_missed_last : (look : List TypeTag → Option Pick) (kinds : List TypeTag) (place : ℕ) → 16 ≤ place → look kinds ≡ None → ◌≡◌ {A = Option Pick} None (first_match look (take place kinds) (16 - place) (drop place kinds))
walk_missed_last look kinds place h missed = walk_last look kinds place None h (sym missed)

pub walk_missed_over : (look : List TypeTag → Option Pick) (kinds : List TypeTag) (place : ℕ) → length kinds ≤ place → look kinds ≡ None → ◌≡◌ {A = Option Pick} None (first_match look (take place kinds) (16 - place) (drop place kinds))
walk_missed_over look kinds place h missed = walk_over look kinds place None h (sym missed)

-- Types of which one is `Dynamic`.

not_zero : (n : ℕ) → (suc n == 0) ≡ false
not_zero n = by (suc n == 0) refl
  where
    by : (b : Bool) → (suc n == 0) ≡ b → (suc n == 0) ≡ false
    by true e = let z : suc n ≡ 0 = (Decides-eqb (suc n) 0).0 e in absurd (omega (arith, z))
    by false e = e

tag_is : (t k : TypeTag) → (tag_eq t k || (false && tag_eq t Dynamic)) ≡ true → t ≡ k
tag_is t k h = by (tag_eq t k) refl h
  where
    by : (b : Bool) → tag_eq t k ≡ b → (b || (false && tag_eq t Dynamic)) ≡ true → t ≡ k
    by true e h = (tag_eq-Decides t k).0 e
    by false e h = absurd cc

or_kept : (a b c d : Bool) → (a || b) ≡ true → (a ≡ true → c ≡ true) → (b ≡ true → d ≡ true) → (c || d) ≡ true
or_kept true b c d h f g = ap (λ (x : Bool). x || d) (f refl)
or_kept false b c d h f g = ap (λ (x : Bool). c || x) (g h) ∙ or_true c

-- the exact types before a place have one, and so have types that match
pub dynamic_kept : (n : ℕ) (types kinds : List TypeTag) → types_match n types kinds ≡ true → any_dynamic (take n kinds) ≡ true → any_dynamic types ≡ true
dynamic_kept zero types kinds h any = absurd cc
dynamic_kept (suc n) [] [] h any = absurd cc
dynamic_kept (suc n) [] (k ∷ kinds) h any = absurd cc
dynamic_kept (suc n) (t ∷ types) [] h any = absurd cc
dynamic_kept (suc n) (t ∷ types) (k ∷ kinds) h any =
    let p = parts (tag_eq t k || ((suc n == 0) && tag_eq t Dynamic)) (types_match (suc n - 1) types kinds) h in
    let e : suc n - 1 ≡ n = omega arith in
    let same : t ≡ k = tag_is t k (ap (λ (b : Bool). tag_eq t k || (b && tag_eq t Dynamic)) (sym (not_zero n)) ∙ p.0) in
    let others : types_match n types kinds ≡ true = ap (λ (m : ℕ). types_match m types kinds) (sym e) ∙ p.1 in
    or_kept (tag_eq k Dynamic) (any_dynamic (take n kinds)) (tag_eq t Dynamic) (any_dynamic types) any (λ e. ap (λ (x : TypeTag). tag_eq x Dynamic) same ∙ e) (λ e. dynamic_kept n types kinds others e)

or_none_of : (a b : Bool) → (a || b) ≡ false → (a ≡ false) × (b ≡ false)
or_none_of true b h = absurd cc
or_none_of false b h = (refl, h)

exact_or_dynamic : (anywhere : Bool) (t k : TypeTag) → (tag_eq t k || (anywhere && tag_eq t Dynamic)) ≡ true → tag_eq t Dynamic ≡ false → t ≡ k
exact_or_dynamic anywhere t k h none = by (tag_eq t k) anywhere refl h
  where
    by : (b z : Bool) → tag_eq t k ≡ b → (b || (z && tag_eq t Dynamic)) ≡ true → t ≡ k
    by true z e h = (tag_eq-Decides t k).0 e
    by false true e h = let q : true ≡ false = sym h ∙ none in absurd cc
    by false false e h = absurd cc

-- types that match are the kinds themselves where none is `Dynamic`
exact_types : (n : ℕ) (types kinds : List TypeTag) → types_match n types kinds ≡ true → any_dynamic types ≡ false → types ≡ kinds
exact_types n [] [] h none = refl
exact_types n [] (k ∷ kinds) h none = absurd cc
exact_types n (t ∷ types) [] h none = absurd cc
exact_types n (t ∷ types) (k ∷ kinds) h none =
    let p = parts (tag_eq t k || ((n == 0) && tag_eq t Dynamic)) (types_match (n - 1) types kinds) h in
    let q = or_none_of (tag_eq t Dynamic) (any_dynamic types) none in
    (λ i. exact_or_dynamic (n == 0) t k p.0 q.0 i ∷ exact_types (n - 1) types kinds p.1 q.1 i)

-- nothing has exactly these types, and a test says that nothing has others that match
pub missed_prunes : (look : List TypeTag → Option Pick) (kinds : List TypeTag) (place : ℕ) → look kinds ≡ None → ((types : List TypeTag) → types_match place types kinds ≡ true → any_dynamic types ≡ true → look types ≡ None)
    → (types : List TypeTag) → types_match place types kinds ≡ true → look types ≡ None
missed_prunes look kinds place missed h types matches = by (any_dynamic types) refl
  where
    by : (b : Bool) → any_dynamic types ≡ b → look types ≡ None
    by true e = h types matches e
    by false e = ap look (exact_types place types kinds matches e) ∙ missed

-- one place more
pub dynamic_more : (kinds : List TypeTag) (place : ℕ) → any_dynamic (take place kinds) ≡ true → any_dynamic (take (place + 1) kinds) ≡ true
dynamic_more [] zero h = absurd cc
dynamic_more [] (suc place) h = absurd cc
dynamic_more (k ∷ kinds) zero h = absurd cc
dynamic_more (k ∷ kinds) (suc place) h =
    let s : suc place + 1 ≡ suc (place + 1) = omega arith in
    ap (λ (m : ℕ). any_dynamic (take m (k ∷ kinds))) s ∙ or_kept (tag_eq k Dynamic) (any_dynamic (take place kinds)) (tag_eq k Dynamic) (any_dynamic (take (place + 1) kinds)) h (λ e. e) (λ e. dynamic_more kinds place e)
