-- The flags of a module, one by one.
use Rattle.std.specs.Prelude.{ℕ, Bool, ◌==◌}
use Rattle.std.specs.Int.RustNames.{bit_and}

pub record Flagged : Type 0 where
  pub internal : Bool
  pub standard : Bool
  pub indexed : Bool

-- by the bits of a module's flags
abbrev pub flags_of : ℕ → Flagged
flags_of bits = record { internal = bit_and bits 1 == 1; standard = bit_and bits 2 == 2; indexed = bit_and bits 4 == 4 }
