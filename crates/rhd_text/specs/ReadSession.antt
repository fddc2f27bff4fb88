-- How a text is read, line by line.
use Rattle.std.specs.Prelude.{ℕ, ◌+◌, List, [], ◌∷◌, Option, Some, None, Result, Ok, Err}
use Rattle.rhd_func.specs.Natives.{NativeInfo}
use Rattle.rhd_plan.specs.declared.session.SessionText.{SessionText}
use Rattle.rhd_syntax.specs.Reading.{◌>>=◌}
use Rattle.rhd_text.specs.ReadRows.{line_of}
use Rattle.rhd_plan.specs.declared.part.Part.{Part}
use Rattle.rhd_plan.specs.Session.{empty_text, with_part}
use Rattle.rhd_text.specs.Session.{with_line}

-- what is said after line n, where it is a line that may stand there
unfoldable pub after_line : List NativeInfo → ℕ → SessionText → List ℕ → Option SessionText
after_line natives n t line = do
  l ← line_of n line
  with_line natives t l

-- what is said with a part more, where one was read that may stand there
abbrev pub with_read : List NativeInfo → SessionText → Option Part → Option SessionText
with_read natives t read = do
  p ← read
  with_part natives t p

-- goes on with what is said, or stops at line n
abbrev pub next : ℕ → Option SessionText → (SessionText → Result SessionText ℕ) → Result SessionText ℕ
next n None more = Err n
next n (Some t) more = more t

-- what is said after these lines, the first of them counted n, or the number of the first bad one
abbrev pub text_from : List NativeInfo → ℕ → SessionText → List (List ℕ) → Result SessionText ℕ
text_from natives n t [] = Ok t
text_from natives n t (line ∷ more) = next n (after_line natives n t line) (λ u. text_from natives (n + 1) u more)

-- what these lines say, or the number of the first bad one
abbrev pub session_of : List NativeInfo → List (List ℕ) → Result SessionText ℕ
session_of natives lines = text_from natives 1 empty_text lines
