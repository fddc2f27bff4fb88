use Rattle.std.proofs.Common.{refl}
use Rattle.rhd_hash.specs.Mix.{answer, mix_end}
use Rattle.rhd_hash.proofs.mixer.Mixer.finish.Goals as goal

pub returns : goal.returns
unfolding answer mix_end
returns c = refl
