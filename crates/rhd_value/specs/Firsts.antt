-- The first that there is.
use Rattle.std.specs.Prelude.{◌≡◌, Bool, List, [], ◌∷◌, if◌then◌else◌, Option, None, Some}
use Rattle.std.specs.Option.{option_or}

-- of some answers, the first that isn't none
abbrev pub first_some : {A : Type 0} → List (Option A) → Option A
first_some [] = None
first_some (a ∷ as') = option_or a (first_some as')

-- what the first that has an answer gives
abbrev pub first_of : {A B : Type 0} → (A → Option B) → List A → Option B
first_of f [] = None
first_of f (x ∷ xs) = option_or (f x) (first_of f xs)

-- an answer that there is only where a test holds
abbrev pub where_holds : {A : Type 0} → Bool → A → Option A
where_holds test a = if test then Some a else None

-- y is what f gives for one of a list, and f gives none for each before it
pub data IsFirst {A B : Type 0} (f : A → Option B) (y : B) : List A → Type 0 where
  here : {x : A} {xs all : List A} → f x ≡ Some y → all ≡ x ∷ xs → IsFirst f y all
  later : {x : A} {xs all : List A} → f x ≡ None → IsFirst f y xs → all ≡ x ∷ xs → IsFirst f y all

-- f gives none for each
abbrev pub NoneHas : {A B : Type 0} → (A → Option B) → List A → Type 0
NoneHas f [] = Unit {0}
NoneHas f (x ∷ xs) = (f x ≡ None) × NoneHas f xs

-- the first of a list, if there is one, and the others
abbrev pub first_and_rest : {A : Type 0} → List A → Option A × List A
first_and_rest [] = (None, [])
first_and_rest (x ∷ xs) = (Some x, xs)
