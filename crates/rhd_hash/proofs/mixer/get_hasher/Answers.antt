use Rattle.std.proofs.Common.{refl}
use Rattle.rhd_hash.specs.Mix.{fresh, mix_start}
use Rattle.rhd_hash.proofs.mixer.get_hasher.Goals as goal

pub returns : goal.returns
unfolding fresh mix_start
returns c = refl
