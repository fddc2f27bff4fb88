-- WHAT A MODULE TEXT SAYS, by the grammar of its lines.
use Rattle.std.specs.Prelude.{◌≡◌, ◌⊎◌, ℕ, ◌+◌, List, [], ◌∷◌, ◌++◌, Option, Result, Ok, Err, codes}
use Rattle.std.specs.Fmt.{decimal}
use Rattle.std.specs.Str.Lines.{lines}
use Rattle.rhd_value.specs.Tree.{Bytes}
use Rattle.rhd_text.specs.Grammar.{formed, IsWritten}
use Rattle.rhd_loader.specs.declared.part.ModulePart.{ModulePart}
use Rattle.rhd_loader.specs.declared.said.Said.{Said}
use Rattle.rhd_loader.specs.Rows.{module_forms, anywhere}
use Rattle.rhd_loader.specs.Said.{nothing_said, with_line}

-- a line of a module text is written so; it is nothing where it says nothing
abbrev pub IsModuleLine : Option ModulePart → List ℕ → Type 0
IsModuleLine line bytes = IsWritten ModulePart (formed module_forms anywhere) line bytes

-- the text of the fault where line n is none
unfoldable pub bad_line : ℕ → Bytes
bad_line n = codes "bad module text at line " ++ decimal n

-- the lines go on with what is said; a fault is what all say
abbrev pub GoesOn : Result Said Bytes → (Said → Type 0) → Result Said Bytes → Type 0
GoesOn (Ok s) more r = more s
GoesOn (Err text) more r = r ≡ Err text

-- After what s says these lines come, the first of them counted n. In the end they say r: what is said, or the text of the fault
-- of the first line that is one or that is no line.
abbrev pub SaysFrom : ℕ → Said → List (List ℕ) → Result Said Bytes → Type 0
SaysFrom n s [] r = r ≡ Ok s
SaysFrom n s (line ∷ more) r =
    ((l : Option ModulePart) × IsModuleLine l line × GoesOn (with_line l s) (λ t. SaysFrom (n + 1) t more r) r)
    ⊎ (((l : Option ModulePart) → IsModuleLine l line → ⊥) × (r ≡ Err (bad_line n)))

-- a text says this
abbrev pub Says : Bytes → Result Said Bytes → Type 0
Says text r = SaysFrom 1 nothing_said (lines text) r
