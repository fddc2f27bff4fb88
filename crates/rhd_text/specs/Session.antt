-- WHAT A SESSION TEXT SAYS: its lines one after the other, and which line is the first bad one.
use Rattle.std.specs.Prelude.{◌≡◌, ℕ, ◌+◌, List, [], ◌∷◌, ◌++◌, length, Option, Some, None, Result, Ok, Err}
use Rattle.rhd_func.specs.Natives.{NativeInfo}
use Rattle.rhd_text.specs.declared.fault.TextFault.{TextFault}
use Rattle.rhd_text.specs.declared.fault.TextFault.TheVariants.{BadLine, OutOfMemory}
use Rattle.rhd_plan.specs.declared.session.SessionText.{SessionText}
use Rattle.rhd_plan.specs.declared.part.Part.{Part}
use Rattle.rhd_plan.specs.Session.{empty_text, with_part}
use Rattle.rhd_text.specs.Grammar.{IsLine}

-- what is said with a line more; none where it may not stand there
abbrev pub with_line : List NativeInfo → SessionText → Option Part → Option SessionText
with_line natives t None = Some t
with_line natives t (Some p) = with_part natives t p

-- after what t says these lines come, of which the first is line n, and then u is said
abbrev pub IsText : List NativeInfo → ℕ → SessionText → List (List ℕ) → SessionText → Type 0
IsText natives n t [] u = u ≡ t
IsText natives n t (line ∷ more) u = (l : Option Part) × (v : SessionText) × IsLine n l line × (with_line natives t l ≡ Some v) × IsText natives (n + 1) v more u

-- these lines say this
abbrev pub IsSession : List NativeInfo → List (List ℕ) → SessionText → Type 0
IsSession natives lines u = IsText natives 1 empty_text lines u

-- After what t says these lines come, of which the first is line `first`: those before line `number` are a text, and this one
-- is no line that may stand there.
pub record IsBadAfter (natives : List NativeInfo) (first : ℕ) (t : SessionText) (number : ℕ) (lines : List (List ℕ)) : Type 0 where
  pub front : List (List ℕ)
  pub bad : List ℕ
  pub more : List (List ℕ)
  pub all : lines ≡ front ++ bad ∷ more
  pub place : number ≡ first + length front
  pub said : SessionText
  pub earlier : IsText natives first t front said
  pub here : (l : Option Part) (v : SessionText) → IsLine number l bad → with_line natives said l ≡ Some v → ⊥

-- line `number` is the first of these that may not stand there
abbrev pub IsFirstBad : List NativeInfo → ℕ → List (List ℕ) → Type 0
IsFirstBad natives number lines = IsBadAfter natives 1 empty_text number lines

-- what reading answered is what the lines are, unless memory ran out
abbrev pub ReadsText : List NativeInfo → List (List ℕ) → Result SessionText TextFault → Type 0
ReadsText natives lines (Ok t) = IsSession natives lines t
ReadsText natives lines (Err (BadLine n)) = IsFirstBad natives n lines
ReadsText natives lines (Err OutOfMemory) = Unit {0}

-- nothing but this was read, unless memory ran out
abbrev pub ReadsNoOther : Result SessionText TextFault → SessionText → Type 0
ReadsNoOther (Ok t) u = t ≡ u
ReadsNoOther (Err (BadLine n)) u = ⊥
ReadsNoOther (Err OutOfMemory) u = Unit {0}

-- no line but this was named, unless memory ran out
abbrev pub NamesNoOther : Result SessionText TextFault → ℕ → Type 0
NamesNoOther (Ok t) n = ⊥
NamesNoOther (Err (BadLine m)) n = m ≡ n
NamesNoOther (Err OutOfMemory) n = Unit {0}
