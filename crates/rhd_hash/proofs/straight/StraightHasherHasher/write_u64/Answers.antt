use Rattle.std.proofs.Common.{ℕ, sym, ap}
use Rattle.std.specs.Hash.{le_bytes}
use Rattle.std.proofs.lemmas.Nat.{from_le_bytes-to_le_bytes_8}
use Rattle.rhd_hash.specs.declared.straight.StraightHasher.{StraightHasher}
use Rattle.rhd_hash.proofs.straight.StraightHasherHasher.write_u64.Goals as goal

pub returns-clause-as_bytes : goal.returns-clause-as_bytes
unfolding le_bytes
returns-clause-as_bytes c =
    let hasher : ℕ → StraightHasher = λ v. record { value = v } in
    ap hasher (sym (from_le_bytes-to_le_bytes_8 c.args.number c.ranges.number.fits))
