-- What a test that was handed in tells.
use Rattle.std.specs.Prelude.{◌≡◌, Bool}

-- what a test answers is told by a function
abbrev pub Tells : {A : Type 0} → (A → Bool → Type 0) → (A → Bool) → Type 0
Tells {A} Answers passes = (a : A) (r : Bool) → Answers a r → r ≡ passes a
