-- What the reader of a text answers.
use Rattle.std.specs.Prelude.{◌≡◌, ℕ, Result, Ok, Err}
use Rattle.rhd_text.specs.declared.fault.TextFault.{TextFault}
use Rattle.rhd_text.specs.declared.fault.TextFault.TheVariants.{BadLine, OutOfMemory}
use Rattle.rhd_plan.specs.declared.session.SessionText.{SessionText}

-- the reader's answer is what the lines say, unless memory ran out
abbrev pub Reads : Result SessionText TextFault → Result SessionText ℕ → Type 0
Reads (Ok t) said = said ≡ Ok t
Reads (Err (BadLine n)) said = said ≡ Err n
Reads (Err OutOfMemory) said = Unit {0}
