-- How look-ups are counted.
use Rattle.std.specs.Prelude.{ℕ, ◌+◌, ◌-◌, ◌^◌, max, min}

-- a count raised by a number, or at the most that it can be
unfoldable pub raised : ℕ → ℕ → ℕ
raised s n = max s (min (s + n) (2 ^ 64 - 1))
