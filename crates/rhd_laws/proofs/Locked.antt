-- Where the first locked argument is.
use Rattle.std.proofs.Common.{◌≡◌, ◌<◌, ℕ, ◌+◌, Bool, true, false, List, [], ◌∷◌, refl, sym, ap, ◌∙◌, arith}
use Rattle.std.specs.Prelude.{◌↔◌, zero, suc, slice_get, Option, None, Some, if◌then◌else◌}
use Rattle.rhd_value.specs.Tree.{Tree}
use Rattle.rhd_func.specs.declared.request.CallShape.{CallShape}
use Rattle.rhd_func.specs.declared.request.CallShape.TheVariants.{Plain, ByRef, Method}
use Rattle.rhd_dispatch.specs.Races.{locked_from, locked_place}
use Rattle.rhd_laws.specs.Causes.{args_by_value, place_by_value, IsFirstLocked}

-- where the search ends with none, no value is locked
not_head : (start : ℕ) (v u : Tree) (rest : Option ℕ) (b : Bool) → v.marks.locked ≡ b → (if b then Some start else rest) ≡ None → ◌≡◌ {A = Option Tree} (Some v) (Some u) → u.marks.locked ≡ true → ⊥
not_head start v u rest true e h there locked = absurd cc
not_head start v u rest false e h there locked = let same : v ≡ u = cc in let q : false ≡ true = sym e ∙ ap (λ (t : Tree). t.marks.locked) same ∙ locked in absurd cc

not_rest : (start : ℕ) (rest : Option ℕ) (b : Bool) → (if b then Some start else rest) ≡ None → rest ≡ None
not_rest start rest true h = absurd cc
not_rest start rest false h = h

none_locked : (start : ℕ) (vs : List Tree) → locked_from start vs ≡ None → (k : ℕ) (u : Tree) → slice_get vs k ≡ Some u → u.marks.locked ≡ true → ⊥
none_locked start [] h k u there locked = absurd cc
none_locked start (v ∷ vs) h zero u there locked = not_head start v u (locked_from (start + 1) vs) v.marks.locked refl h there locked
none_locked start (v ∷ vs) h (suc j) u there locked = none_locked (start + 1) vs (not_rest start (locked_from (start + 1) vs) v.marks.locked h) j u there locked

-- what is at a place, and that nothing before it is locked
record Found (start : ℕ) (vs : List Tree) (n : ℕ) : Type 0 where
  k : ℕ
  value : Tree
  place : n ≡ start + k
  stands : slice_get vs k ≡ Some value
  locked : value.marks.locked ≡ true
  none_before : (j : ℕ) (u : Tree) → j < k → slice_get vs j ≡ Some u → u.marks.locked ≡ true → ⊥

before : (v : Tree) (vs : List Tree) (k : ℕ) → v.marks.locked ≡ false → ((j : ℕ) (u : Tree) → j < k → slice_get vs j ≡ Some u → u.marks.locked ≡ true → ⊥)
    → (j : ℕ) (u : Tree) → j < suc k → slice_get (v ∷ vs) j ≡ Some u → u.marks.locked ≡ true → ⊥
before v vs k e none zero u b there locked = let same : v ≡ u = cc in let q : false ≡ true = sym e ∙ ap (λ (t : Tree). t.marks.locked) same ∙ locked in absurd cc
before v vs k e none (suc j) u b there locked = none j u (omega arith) there locked

one_on : (start : ℕ) (v : Tree) (vs : List Tree) (n : ℕ) → v.marks.locked ≡ false → Found (start + 1) vs n → Found start (v ∷ vs) n
one_on start v vs n e r = record { k = suc r.k; value = r.value; place = omega (arith, r.place); stands = r.stands; locked = r.locked; none_before = before v vs r.k e r.none_before }

found_by : (start : ℕ) (vs : List Tree) (n : ℕ) → locked_from start vs ≡ Some n → Found start vs n
found_by start [] n h = absurd cc
found_by start (v ∷ vs) n h =
    let by : (b : Bool) → v.marks.locked ≡ b → (if b then Some start else locked_from (start + 1) vs) ≡ Some n → Found start (v ∷ vs) n =
    elim [
      | true ↦ (λ e r. let same : start ≡ n = cc in record { k = 0; value = v; place = omega (arith, same); stands = refl; locked = e; none_before = λ j u b there locked. absurd (omega arith) })
      | false ↦ (λ e r. one_on start v vs n e (found_by (start + 1) vs n r))
    ] in
    by v.marks.locked refl h

-- the search finds the place exactly where it is that of the first locked argument
abbrev searched : CallShape → Option ℕ
searched shape = locked_from (place_by_value shape) (args_by_value shape)

place_searched : (shape : CallShape) → locked_place shape ≡ searched shape
place_searched (Plain args) = refl
place_searched (ByRef first args) = refl
place_searched (Method object args) = refl

pub place_first : (shape : CallShape) (n : ℕ) → locked_place shape ≡ Some n → IsFirstLocked shape n
place_first shape n h =
    let r = found_by (place_by_value shape) (args_by_value shape) n (sym (place_searched shape) ∙ h) in (
      record { at = r.k; argument = r.value; place = r.place; stands = r.stands; locked = r.locked },
      λ m b l. r.none_before l.at l.argument (omega (arith, r.place, l.place)) l.stands l.locked,
    )

the_same : (m n : ℕ) → (m < n → ⊥) → (n < m → ⊥) → m ≡ n
the_same m n p q = omega (arith, p, q)

same_first : (shape : CallShape) (m n : ℕ) → IsFirstLocked shape m → IsFirstLocked shape n → m ≡ n
same_first shape m n a b = the_same m n (λ h. b.1 m h a.0) (λ h. a.1 n h b.0)

pub first_place : (shape : CallShape) (n : ℕ) → IsFirstLocked shape n → locked_place shape ≡ Some n
first_place shape n first =
    let by : (o : Option ℕ) → locked_place shape ≡ o → o ≡ Some n =
    elim [
      | None ↦ (λ e. absurd (none_locked (place_by_value shape) (args_by_value shape) (sym (place_searched shape) ∙ e) first.0.at first.0.argument first.0.stands first.0.locked))
      | Some m ↦ (λ e. ap Some (same_first shape m n (place_first shape m e) first))
    ] in
    by (locked_place shape) refl

pub place_exactly : (shape : CallShape) (n : ℕ) → (locked_place shape ≡ Some n) ↔ IsFirstLocked shape n
place_exactly shape n = (place_first shape n, first_place shape n)
