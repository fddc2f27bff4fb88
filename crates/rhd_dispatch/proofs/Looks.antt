-- How many look-ups a search makes.
use Rattle.std.proofs.Common.{◌≡◌, ◌≤◌, ◌<◌, ℕ, ◌+◌, ◌-◌, ◌*◌, List, [], ◌∷◌, ◌++◌, length, map, drop, get_or, set, sym, ap, ◌∙◌, arith}
use Rattle.std.specs.Prelude.{zero, suc}
use Rattle.std.specs.List.{enumerate_from}
use Rattle.std.proofs.lemmas.List.{length-append, length-map, length-reverse, drop-set-lt}
use Rattle.std.proofs.lemmas.List.FromFn.{length-enumerate_from}
use Rattle.std.proofs.Math.Seq.{drop-cons}
use native.Mathlib.Nat.{add-mul, one-mul}
use Rattle.rhd_value.specs.declared.tag.TypeTag.{TypeTag}
use Rattle.rhd_value.specs.declared.tag.TypeTag.TheVariants.{Dynamic}
use Rattle.rhd_hash.specs.Steps.{raised}
use Rattle.rhd_module.specs.Tree.{ModuleTree}
use Rattle.rhd_engine.specs.Engine.{EngineLists, Imports}
use Rattle.rhd_dispatch.specs.Patterns.{patterns_to, patterns}
use Rattle.rhd_dispatch.specs.Searched.{searched}
use Rattle.rhd_dispatch.specs.Walks.{numbered, latest, library_places, global_places, import_trees, static_trees, all_places}

-- one module asked
pub raised_once : (old new : ℕ) → new ≡ raised old 1 → new ≤ old + 1
unfolding raised
raised_once old new is = omega (arith, is)

pub all_count : (libs globals : List ModuleTree) (imports statics : Imports) → length (all_places libs globals imports statics) ≡ length libs + length globals + length imports + length statics
all_count libs globals imports statics =
    let l : length (library_places libs) ≡ length libs = length-map (latest libs) _ ∙ length-reverse (enumerate_from 0 libs) ∙ length-enumerate_from 0 libs in
    let g : length (global_places globals) ≡ length globals = length-map (numbered globals) _ ∙ length-enumerate_from 0 globals in
    let i : length (import_trees imports) ≡ length imports = length-map (latest imports) _ ∙ length-reverse (enumerate_from 0 imports) ∙ length-enumerate_from 0 imports in
    let s : length (static_trees statics) ≡ length statics = length-map (numbered statics) _ ∙ length-enumerate_from 0 statics in
    omega (
      arith,
      l,
      g,
      i,
      s,
      length-append (library_places libs) (global_places globals ++ (import_trees imports ++ static_trees statics)),
      length-append (global_places globals) (import_trees imports ++ static_trees statics),
      length-append (import_trees imports) (static_trees statics),
    )

pub in_all : (libs globals : List ModuleTree) (imports statics : Imports) (s new : ℕ) → new ≤ s + length (all_places libs globals imports statics) → new ≤ s + (length libs + length globals + length imports + length statics)
in_all libs globals imports statics s new h = omega (arith, all_count libs globals imports statics, h)

pub places_count : (e : EngineLists) (libs : List ModuleTree) (imports : Imports) → length (searched e libs imports) ≡ length libs + length e.globals + length imports + length e.statics
places_count e libs imports = all_count libs e.globals imports e.statics

-- Patterns: there is one, and one place more makes twice as many.

pub some_pattern : (n : ℕ) (ts : List TypeTag) → 1 ≤ length (patterns_to n ts)
unfolding patterns_to
some_pattern n [] = omega arith
some_pattern zero (t ∷ ts) = omega arith
some_pattern (suc n) (t ∷ ts) =
    let ps = patterns_to n ts in
    omega (arith, length-append (map (λ p. t ∷ p) ps) (map (λ p. Dynamic ∷ p) ps), length-map ps (λ p. t ∷ p), length-map ps (λ p. Dynamic ∷ p), some_pattern n ts)

pub twice_step : (n : ℕ) (t : TypeTag) (ts : List TypeTag) → length (patterns_to (suc n) (t ∷ ts)) ≡ length (patterns_to n ts) + length (patterns_to n ts)
unfolding patterns_to
twice_step n t ts =
    let ps = patterns_to n ts in
    length-append (map (λ p. t ∷ p) ps) (map (λ p. Dynamic ∷ p) ps) ∙ (λ i. length-map ps (λ p. t ∷ p) i + length-map ps (λ p. Dynamic ∷ p) i)

pub twice : (kinds : List TypeTag) (place : ℕ) → place < 16 → place < length kinds →
    length (patterns_to (16 - place) (drop place kinds)) ≡ length (patterns_to (16 - (place + 1)) (drop (place + 1) kinds)) + length (patterns_to (16 - (place + 1)) (drop (place + 1) kinds))
twice kinds place small within =
    let a : 16 - place ≡ suc (16 - (place + 1)) = omega arith in
    let s : suc place ≡ place + 1 = omega arith in
    let t = get_or kinds place Dynamic in
    let d : drop place kinds ≡ t ∷ drop (place + 1) kinds = drop-cons kinds place Dynamic within ∙ (λ i. t ∷ drop (s i) kinds) in
    (λ i. length (patterns_to (a i) (d i))) ∙ twice_step (16 - (place + 1)) t (drop (place + 1) kinds)

-- Numbers.

times_twice : (all half m : ℕ) → all ≡ half + half → all * m ≡ half * m + half * m
times_twice all half m is = ap (λ (n : ℕ). n * m) is ∙ add-mul half half m

pub at_least_once : (n m : ℕ) → 1 ≤ n → m ≤ n * m
at_least_once n m some =
    let is : n ≡ 1 + (n - 1) = omega arith in
    let e : n * m ≡ 1 * m + (n - 1) * m = ap (λ (k : ℕ). k * m) is ∙ add-mul 1 (n - 1) m in
    omega (arith, e, one-mul m)

sum_first : (x a s first : ℕ) → x ≡ a + a → first ≤ s + a → first ≤ s + x
sum_first x a s first twice one = omega arith

sum_both : (x a b s first second : ℕ) → x ≡ a + a → b ≡ a → first ≤ s + a → second ≤ first + b → second ≤ s + x
sum_both x a b s first second twice same one two = omega arith

sum_first_less : (x a m s first : ℕ) → x ≡ a + a → first + m ≤ s + a → first + m ≤ s + x
sum_first_less x a m s first twice one = omega arith

sum_both_less : (x a b m s first second : ℕ) → x ≡ a + a → b ≡ a → first + m ≤ s + a → second ≤ first + b → second + m ≤ s + x
sum_both_less x a b m s first second twice same one two = omega arith

-- The walk.

-- how many patterns are left after a place
abbrev pub after_place : List TypeTag → ℕ → ℕ
after_place kinds place = length (patterns_to (16 - (place + 1)) (drop (place + 1) kinds))

abbrev pub from_place : List TypeTag → ℕ → ℕ
from_place kinds place = length (patterns_to (16 - place) (drop place kinds))

same_after : (kinds same : List TypeTag) (place m : ℕ) → place < length kinds → same ≡ kinds → after_place (set same place Dynamic) place * m ≡ after_place kinds place * m
same_after kinds same place m within is =
    let r : drop (place + 1) (set same place Dynamic) ≡ drop (place + 1) kinds = ap (λ (ks : List TypeTag). drop (place + 1) (set ks place Dynamic)) is ∙ drop-set-lt (place + 1) kinds place Dynamic (omega arith) in
    ap (λ (ts : List TypeTag). length (patterns_to (16 - (place + 1)) ts) * m) r

pub leaf_looks : (kinds : List TypeTag) (place m s new : ℕ) → new ≤ s + m → new ≤ s + from_place kinds place * m
leaf_looks kinds place m s new h =
    let l : m ≤ from_place kinds place * m = at_least_once (from_place kinds place) m (some_pattern (16 - place) (drop place kinds)) in
    omega (arith, l, h)

pub leaf_missed : (kinds : List TypeTag) (place m s : ℕ) → s + m ≤ s + from_place kinds place * m
leaf_missed kinds place m s =
    let l : m ≤ from_place kinds place * m = at_least_once (from_place kinds place) m (some_pattern (16 - place) (drop place kinds)) in
    omega (arith, l)

pub first_looks : (kinds : List TypeTag) (place m s first : ℕ) → place < 16 → place < length kinds → first ≤ s + after_place kinds place * m → first ≤ s + from_place kinds place * m
first_looks kinds place m s first small within one =
    sum_first (from_place kinds place * m) (after_place kinds place * m) s first (times_twice (from_place kinds place) (after_place kinds place) m (twice kinds place small within)) one

pub both_looks : (kinds same : List TypeTag) (place m s first second : ℕ) → place < 16 → place < length kinds → same ≡ kinds → first ≤ s + after_place kinds place * m → second ≤ first + after_place (set same place Dynamic) place * m
    → second ≤ s + from_place kinds place * m
both_looks kinds same place m s first second small within is one two =
    sum_both (from_place kinds place * m) (after_place kinds place * m) (after_place (set same place Dynamic) place * m) s first second
    (times_twice (from_place kinds place) (after_place kinds place) m (twice kinds place small within)) (same_after kinds same place m within is) one two

pub first_less : (kinds : List TypeTag) (place m s first : ℕ) → place < 16 → place < length kinds → first + m ≤ s + after_place kinds place * m → first + m ≤ s + from_place kinds place * m
first_less kinds place m s first small within one =
    sum_first_less (from_place kinds place * m) (after_place kinds place * m) m s first (times_twice (from_place kinds place) (after_place kinds place) m (twice kinds place small within)) one

pub both_less : (kinds same : List TypeTag) (place m s first second : ℕ) → place < 16 → place < length kinds → same ≡ kinds → first + m ≤ s + after_place kinds place * m → second ≤ first + after_place (set same place Dynamic) place * m
    → second + m ≤ s + from_place kinds place * m
both_less kinds same place m s first second small within is one two =
    sum_both_less (from_place kinds place * m) (after_place kinds place * m) (after_place (set same place Dynamic) place * m) m s first second
    (times_twice (from_place kinds place) (after_place kinds place) m (twice kinds place small within)) (same_after kinds same place m within is) one two

-- The exact pattern, and those after it.

pub most_exact : (kinds : List TypeTag) (s m new : ℕ) → new ≤ s + m → new ≤ s + length (patterns kinds) * m
most_exact kinds s m new h =
    let l : m ≤ length (patterns kinds) * m = at_least_once (length (patterns kinds)) m (some_pattern 16 kinds) in
    omega (arith, l, h)

pub most_others : (all m s first last : ℕ) → first ≤ s + m → last + m ≤ first + all * m → last ≤ s + all * m
most_others all m s first last one others = omega (arith, one, others)

-- The questions of a call.

-- how many modules there are
abbrev modules : EngineLists → List ModuleTree → Imports → ℕ
modules e libs imports = length libs + length e.globals + length imports + length e.statics

-- as many keys, in each module
pub asked_keys : (e : EngineLists) (libs : List ModuleTree) (imports : Imports) (k j n s new : ℕ) → new ≤ s + j * n → n ≡ modules e libs imports → k ≡ j → new ≤ s + k * length (searched e libs imports)
asked_keys e libs imports k j n s new h is same =
    let p : k * length (searched e libs imports) ≡ j * n = λ i. same i * (places_count e libs imports ∙ sym is) i in
    omega (arith, h, p)

pub one_key : (s m new : ℕ) → new ≤ s + m → new ≤ s + 1 * m
one_key s m new h = omega (arith, h, one-mul m)
