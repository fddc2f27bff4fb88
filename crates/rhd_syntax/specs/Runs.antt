-- RUNS OF BYTES that are read at once.
use Rattle.std.specs.Prelude.{ℕ, Bool, List, ◌++◌, Option, ◌&&◌, not, ◌==◌}
use Rattle.std.specs.Option.{option_map}

-- read as itself between two of these quotation marks
abbrev pub is_letter : ℕ → ℕ → Bool
is_letter quote b = not (b == quote) && not (b == 92)

-- what was read of a text before, and what is still read
abbrev pub with_text : List ℕ → Option (List ℕ × List ℕ) → Option (List ℕ × List ℕ)
with_text front read = option_map (λ t. (front ++ t.0, t.1)) read
