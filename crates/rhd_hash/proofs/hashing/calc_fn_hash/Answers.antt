use Rattle.rhd_hash.specs.Parts.{mixed}
use Rattle.rhd_hash.proofs.Paths.{count_of}
use Rattle.std.proofs.Common.{refl}
use Rattle.rhd_hash.proofs.hashing.calc_fn_hash.Goals as goal

pub returns : goal.returns
unfolding mixed
returns c = rw (c.fn_hash.ensures, c.behind_first.ensures, count_of c.args.path.now) refl
