-- What a key finds in a table of pairs, and what putting a value in changes, said without a search.
use Rattle.std.specs.Prelude.{◌≡◌, ◌≢◌, List, [], ◌∷◌, ◌++◌}
use Rattle.std.specs.List.{AllByRecursion}

-- nothing stands under the key
abbrev pub NoneWith : {K V : Type 0} → K → List (K × V) → Type 0
NoneWith key ps = AllByRecursion (λ p. p.0 ≢ key) ps

-- the value stands under the key, and none before it does
pub record IsFirstWith {K V : Type 0} (key : K) (v : V) (ps : List (K × V)) : Type 0 where
  pub front : List (K × V)
  pub others : List (K × V)
  pub stands : ps ≡ front ++ (key, v) ∷ others
  pub before : NoneWith key front

-- The value takes the place of the first under the key, or goes last where there is none. All others stay, in order.
pub data IsPut {K V : Type 0} (key : K) (v : V) (old new : List (K × V)) : Type 0 where
  in_place : (front others : List (K × V)) (was : V) →
      NoneWith key front →
      old ≡ front ++ (key, was) ∷ others →
      new ≡ front ++ (key, v) ∷ others →
      IsPut key v old new
  last :
      NoneWith key old →
      new ≡ old ++ (key, v) ∷ [] →
      IsPut key v old new
