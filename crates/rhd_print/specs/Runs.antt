-- RUNS OF BYTES that are printed at once.
use Rattle.std.specs.Prelude.{ℕ, Bool, ◌&&◌, nat_le, not, ◌==◌}

-- no control character, and printed as itself between two of these quotation marks
abbrev pub is_plain : ℕ → ℕ → Bool
is_plain quote b = nat_le 32 b && not (b == quote) && not (b == 92)
