-- What a straight hasher makes of bytes.
use Rattle.std.specs.Prelude.{ℕ, List, ◌==◌, length, if◌then◌else◌}
use Rattle.std.specs.Int.{from_le_bytes}
use Rattle.std.proofs.Common.{w64}
use Rattle.rhd_hash.specs.declared.straight.StraightHasher.{StraightHasher}

-- eight bytes are the number that they are written for, and bytes of another count change nothing
abbrev pub straight : StraightHasher → List ℕ → StraightHasher
straight s bytes = if length bytes == 8 then record { value = from_le_bytes w64 bytes } else s
