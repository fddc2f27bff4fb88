use Rattle.std.proofs.Common.{refl}
use Rattle.rhd_hash.specs.Parts.{mixed}
use Rattle.rhd_hash.proofs.hashing.calc_native_fn_hash.Goals as goal

pub returns : goal.returns
unfolding mixed
returns c = rw (c.calc_fn_hash_full.ensures, c.calc_fn_hash-base.ensures) refl
