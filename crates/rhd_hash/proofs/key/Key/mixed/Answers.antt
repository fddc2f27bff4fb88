use Rattle.std.proofs.Common.{refl}
use Rattle.rhd_hash.specs.Parts.{mixed}
use Rattle.rhd_hash.proofs.key.Key.mixed.Goals as goal

pub returns-in-Script : goal.returns-in-Script
unfolding mixed
returns-in-Script c = rw (c.in-Script.is, c.fn_hash.ensures, c.kept_names.ensures, c.kept_count.ensures) refl

pub returns-in-Typed : goal.returns-in-Typed
unfolding mixed
returns-in-Typed c = rw (c.in-Typed.is, c.calc_typed_method_hash.ensures, c.fn_hash-base.ensures, c.kept_names-in-Typed.ensures, c.kept_count-in-Typed.ensures) refl

pub returns-in-Native : goal.returns-in-Native
unfolding mixed
returns-in-Native c =
    rw (c.in-Native.is, c.calc_fn_hash_full.ensures, c.fn_hash-base-in-Native.ensures, c.kept_names-in-Native.ensures, c.kept_count-in-Native.ensures, c.as_slice.ensures, c.len-params.ensures)
    refl
