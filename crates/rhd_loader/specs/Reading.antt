-- How a module text is read, line by line.
use Rattle.std.specs.Prelude.{◌≡◌, ℕ, ◌+◌, List, [], ◌∷◌, Option, Some, None, Result, Ok, Err}
use Rattle.rhd_value.specs.Tree.{Bytes}
use Rattle.rhd_text.specs.ReadRows.{form_at, line_by}
use Rattle.rhd_loader.specs.declared.part.ModulePart.{ModulePart}
use Rattle.rhd_loader.specs.declared.said.Said.{Said}
use Rattle.rhd_loader.specs.declared.said.Unsaid.{Unsaid}
use Rattle.rhd_loader.specs.declared.said.Unsaid.TheVariants as unsaid
use Rattle.rhd_loader.specs.Rows.{module_forms, anywhere}
use Rattle.rhd_loader.specs.Said.{with_line}
use Rattle.rhd_loader.specs.Says.{bad_line}

-- what a line is
abbrev pub module_line : List ℕ → Option (Option ModulePart)
module_line line = line_by (form_at module_forms anywhere) line

-- what is said after line n, which is none or is this
abbrev pub said_with : ℕ → Said → Option (Option ModulePart) → Result Said Bytes
said_with n s None = Err (bad_line n)
said_with n s (Some l) = with_line l s

-- what is said after line n
abbrev pub after_line : ℕ → Said → List ℕ → Result Said Bytes
after_line n s line = said_with n s (module_line line)

-- goes on with what is said, or stops at a fault
abbrev pub next : Result Said Bytes → (Said → Result Said Bytes) → Result Said Bytes
next (Ok s) more = more s
next (Err text) more = Err text

-- what is said after these lines, the first of them counted n
abbrev pub said_from : ℕ → Said → List (List ℕ) → Result Said Bytes
said_from n s [] = Ok s
said_from n s (line ∷ more) = next (after_line n s line) (λ t. said_from (n + 1) t more)

-- a reader stopped with the fault that is said, unless memory ran out
abbrev pub StopsSo : Unsaid → Result Said Bytes → Type 0
StopsSo (unsaid.Fault text) said = said ≡ Err text
StopsSo unsaid.Memory said = Unit {0}

-- what a step left is what is said, unless memory ran out
abbrev pub StepSays : {X : Type 0} → Result X Unsaid → Said → Result Said Bytes → Type 0
StepSays (Ok x) new said = said ≡ Ok new
StepSays (Err e) new said = StopsSo e said

-- what was read is what is said, unless memory ran out
abbrev pub ReadsSaid : Result Said Unsaid → Result Said Bytes → Type 0
ReadsSaid (Ok s) said = said ≡ Ok s
ReadsSaid (Err e) said = StopsSo e said
