-- What the readers answer.
use Rattle.std.specs.Prelude.{◌≡◌, ℕ, List, Option, Some, None, Result, Ok, Err}
use Rattle.rhd_value.specs.Tree.{Tree}
use Rattle.rhd_syntax.specs.declared.fault.Stop.{Stop}
use Rattle.rhd_syntax.specs.declared.fault.Stop.TheVariants as stops
use Rattle.rhd_syntax.specs.Spans.{IsValue}

-- a reader stopped where its definition gives nothing, unless memory ran out
abbrev pub Stops : {Y : Type 0} → Stop → Option Y → Type 0
Stops stops.Bad read = read ≡ None
Stops stops.Memory read = Unit {0}

-- what a reader answered, seen by view, is what its definition gives, unless memory ran out
abbrev pub Gives : {X Y : Type 0} → (X → Y) → Result X Stop → Option Y → Type 0
Gives view (Ok x) read = read ≡ Some (view x)
Gives view (Err e) read = Stops e read

-- what a step made of the old is what its definition gives, unless memory ran out; where it stopped, all is as before
abbrev pub StepGives : {X Y : Type 0} → Result X Stop → Y → Y → Option Y → Type 0
StepGives (Ok x) old new step = step ≡ Some new
StepGives (Err e) old new step = Stops e step × (new ≡ old)

-- the value that the bytes are, and none exactly where they are none, unless memory ran out
abbrev pub ReadsValue : {E : Type 0} → List ℕ → Result (Option Tree) E → Type 0
ReadsValue bytes (Ok (Some t)) = IsValue t bytes
ReadsValue bytes (Ok None) = (t : Tree) → IsValue t bytes → ⊥
ReadsValue bytes (Err e) = Unit {0}
