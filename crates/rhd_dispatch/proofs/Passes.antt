-- A walk that has passed some of a list, and what is left of it.
use Rattle.std.proofs.Common.{◌≡◌, ◌≤◌, ◌<◌, ℕ, ◌+◌, true, false, Bool, List, [], ◌∷◌, ◌++◌, take, drop, length, get_or, map, refl, sym, ap, ◌∙◌, arith}
use Rattle.std.specs.Prelude.{zero, suc, Option, None, Some, is_some, reverse}
use Rattle.std.specs.List.{enumerate_from, list_all}
use Rattle.std.specs.Option.{option_or, option_map}
use Rattle.std.proofs.lemmas.List.{reverse-append, take_more, length-take, length-append, length-map, length-reverse}
use Rattle.std.proofs.lemmas.List.FromFn.{length-enumerate_from}
use Rattle.std.proofs.Math.Seq.{drop-cons}
use Rattle.rhd_value.specs.Firsts.{first_of}
use Rattle.rhd_layers.proofs.Bools.{parts}
use Rattle.rhd_dispatch.proofs.Firsts.{of_append, of_map}

-- Lists of numbers.

numbered_last : {X : Type 0} (k : ℕ) (xs : List X) (x : X) → enumerate_from k (xs ++ x ∷ []) ≡ enumerate_from k xs ++ (k + length xs, x) ∷ []
numbered_last k [] x = let n : k ≡ k + 0 = omega arith in ap (λ (i : ℕ). (i, x) ∷ []) n
numbered_last {X} k (y ∷ xs) x =
    let n : k + 1 + length xs ≡ k + suc (length xs) = omega arith in
    ap (λ (ys : List (ℕ × X)). (k, y) ∷ ys) (numbered_last (k + 1) xs x ∙ ap (λ (i : ℕ). enumerate_from (k + 1) xs ++ (i, x) ∷ []) n)

-- of the first places, the last comes first where the latest come first
pub latest_more : {X : Type 0} (xs : List X) (i j : ℕ) (x : X) → j ≡ i + 1 → i < length xs → x ≡ get_or xs i x → reverse (enumerate_from 0 (take j xs)) ≡ (i, x) ∷ reverse (enumerate_from 0 (take i xs))
latest_more {X} xs i j x next h is =
    let t : take j xs ≡ take i xs ++ x ∷ [] = ap (λ (k : ℕ). take k xs) next ∙ take_more xs i x h ∙ ap (λ (y : X). take i xs ++ y ∷ []) (sym is) in
    let l : 0 + length (take i xs) ≡ i = omega (arith, length-take i xs) in
    ap (λ (ys : List X). reverse (enumerate_from 0 ys)) t ∙ ap (λ (ys : List (ℕ × X)). reverse ys) (numbered_last 0 (take i xs) x ∙ ap (λ (n : ℕ). enumerate_from 0 (take i xs) ++ (n, x) ∷ []) l) ∙ reverse-append (enumerate_from 0 (take i xs)) ((i, x) ∷ [])

pub numbered_more : {X : Type 0} (xs : List X) (i : ℕ) (x : X) → i < length xs → x ≡ get_or xs i x → enumerate_from i (drop i xs) ≡ (i, x) ∷ enumerate_from (i + 1) (drop (i + 1) xs)
numbered_more {X} xs i x h is =
    let s : suc i ≡ i + 1 = omega arith in
    let d : drop i xs ≡ x ∷ drop (i + 1) xs = drop-cons xs i x h ∙ (λ j. sym is j ∷ drop (s j) xs) in
    ap (λ (ys : List X). enumerate_from i ys) d

-- as many as they number
pub numbered_steps : {X : Type 0} (same xs : List X) → same ≡ xs → (s t : ℕ) → t ≤ s + length same → t ≤ s + length (enumerate_from 0 xs)
numbered_steps same xs is s t h = (let l : length same ≡ length xs = ap length is in let n = length-enumerate_from 0 xs in omega (arith, l, n, h))

pub latest_steps : {X : Type 0} (same xs : List X) → same ≡ xs → (s t : ℕ) → t ≤ s + length same → t ≤ s + length (reverse (enumerate_from 0 xs))
latest_steps same xs is s t h = (let l : length same ≡ length xs = ap length is in let n = length-enumerate_from 0 xs in let r = length-reverse (enumerate_from 0 xs) in omega (arith, l, n, r, h))

pub in_numbered : {X : Type 0} (xs : List X) (s t : ℕ) → t ≤ s + length (enumerate_from 0 xs) → t ≤ s + length xs
in_numbered xs s t h = (let n = length-enumerate_from 0 xs in omega (arith, n, h))

pub in_latest : {X : Type 0} (xs : List X) (s t : ℕ) → t ≤ s + length (reverse (enumerate_from 0 xs)) → t ≤ s + length xs
in_latest xs s t h = (let n = length-enumerate_from 0 xs in let r = length-reverse (enumerate_from 0 xs) in omega (arith, n, r, h))

-- what holds of each holds at a place
pub all_at : {X : Type 0} (p : X → Bool) (xs : List X) (i : ℕ) (x : X) → list_all p xs ≡ true → i < length xs → x ≡ get_or xs i x → p x ≡ true
all_at p [] i x all h is = absurd (omega arith)
all_at p (y ∷ xs) zero x all h is = ap p is ∙ (parts (p y) (list_all p xs) all).0
all_at p (y ∷ xs) (suc i) x all h is = all_at p xs i x (parts (p y) (list_all p xs) all).1 (omega arith) is

-- None that was passed has an answer, and each was asked once at most.
pub record Passed {X Y : Type 0} (g : X → Option Y) (whole rest : List X) (before now : ℕ) : Type 0 where
  pub found : first_of g whole ≡ first_of g rest
  pub steps : now + length rest ≤ before + length whole

pub passed_none : {X Y : Type 0} (g : X → Option Y) (whole : List X) (s : ℕ) → Passed g whole whole s s
passed_none g whole s = record { found = refl; steps = omega arith }

pub first_miss : {X Y : Type 0} (g : X → Option Y) (rest more : List X) (x : X) → rest ≡ x ∷ more → g x ≡ None → first_of g rest ≡ first_of g more
first_miss {Y = Y} g rest more x is miss = ap (first_of g) is ∙ ap (λ (o : Option Y). option_or o (first_of g more)) miss

pub first_hit : {X Y : Type 0} (g : X → Option Y) (rest more : List X) (x : X) (o : Option Y) → rest ≡ x ∷ more → o ≡ g x → is_some o ≡ true → o ≡ first_of g rest
first_hit g rest more x None is same some = absurd cc
first_hit {Y = Y} g rest more x (Some y) is same some = sym (ap (first_of g) is ∙ ap (λ (o : Option Y). option_or o (first_of g more)) (sym same))

module _ {X Y : Type 0} (g : X → Option Y) (whole : List X) (before : ℕ) where
  pub passed_miss : (rest more : List X) (x : X) (now next : ℕ) → Passed g whole rest before now → rest ≡ x ∷ more → g x ≡ None → next ≤ now + 1 → Passed g whole more before next
  passed_miss rest more x now next p is miss step = record {
    found = p.found ∙ first_miss g rest more x is miss;
    steps = (let l : length rest ≡ suc (length more) = ap length is in let b = p.steps in omega (arith, l, b, step));
  }

  pub hit_found : (rest more : List X) (x : X) (now : ℕ) (o : Option Y) → Passed g whole rest before now → rest ≡ x ∷ more → o ≡ g x → is_some o ≡ true → o ≡ first_of g whole
  hit_found rest more x now o p is same some = first_hit g rest more x o is same some ∙ sym p.found

  pub hit_steps : (rest more : List X) (x : X) (now next : ℕ) → Passed g whole rest before now → rest ≡ x ∷ more → next ≤ now + 1 → next ≤ before + length whole
  hit_steps rest more x now next p is step = (let l : length rest ≡ suc (length more) = ap length is in let b = p.steps in omega (arith, l, b, step))

  pub end_steps : (rest : List X) (now : ℕ) → Passed g whole rest before now → now ≤ before + length whole
  end_steps rest now p = (let b = p.steps in omega (arith, b))

pub map_some : {A B : Type 0} (h : A → B) (o : Option A) (b : Bool) → b ≡ is_some o → b ≡ true → is_some (option_map h o) ≡ true
map_some h None b is some = absurd cc
map_some h (Some x) b is some = refl

pub map_none : {A B : Type 0} (h : A → B) (o : Option A) (b : Bool) → b ≡ is_some o → b ≡ false → option_map h o ≡ None
map_none h None b is none = refl
map_none h (Some x) b is none = absurd cc

-- A walk over several lists, one after another.

or_next : {A : Type 0} (a b : Option A) → a ≡ None → option_or a b ≡ b
or_next a b none = ap (λ (o : Option _). option_or o b) none

or_here : {A : Type 0} (a b : Option A) → is_some a ≡ true → a ≡ option_or a b
or_here None b e = absurd cc
or_here (Some x) b e = refl

module _ {X Y Z : Type 0} (g : Y → Option Z) (h : X → Y) (whole rest : List Y) (xs : List X) (before now next : ℕ) (o : Option Z) (p : Passed g whole (map h xs ++ rest) before now) (is : o ≡ first_of (λ x. g (h x)) xs) (step : next ≤ now + length xs) where
  part_first : o ≡ first_of g (map h xs)
  part_first = is ∙ sym (of_map g h xs)

  part_count : length (map h xs ++ rest) ≡ length xs + length rest
  part_count = length-append (map h xs) rest ∙ ap (λ (n : ℕ). n + length rest) (length-map xs h)

  pub part_miss : o ≡ None → Passed g whole rest before next
  part_miss none = record {
    found = p.found ∙ of_append g (map h xs) rest ∙ or_next (first_of g (map h xs)) (first_of g rest) (sym part_first ∙ none);
    steps = (let b = p.steps in let c = part_count in omega (arith, b, c, step));
  }

  pub part_found : is_some o ≡ true → o ≡ first_of g whole
  part_found some = or_here o (first_of g rest) some ∙ ap (λ (a : Option Z). option_or a (first_of g rest)) part_first ∙ sym (p.found ∙ of_append g (map h xs) rest)

  pub part_steps : next ≤ before + length whole
  part_steps = (let b = p.steps in let c = part_count in omega (arith, b, c, step))

module _ {X Y Z : Type 0} (g : Y → Option Z) (h : X → Y) (whole : List Y) (xs : List X) (before now next : ℕ) (o : Option Z) (p : Passed g whole (map h xs) before now) (is : o ≡ first_of (λ x. g (h x)) xs) (step : next ≤ now + length xs) where
  pub last_found : o ≡ first_of g whole
  last_found = is ∙ sym (p.found ∙ of_map g h xs)

  pub last_steps : next ≤ before + length whole
  last_steps = (let b = p.steps in let c = length-map xs h in omega (arith, b, c, step))
