use Rattle.std.proofs.Common.{refl}
use Rattle.rhd_hash.specs.Mix.{after, mix_all, mix_step}
use Rattle.rhd_hash.proofs.mixer.Mixer.write_u8.Goals as goal

pub returns : goal.returns
unfolding after mix_all mix_step
returns c = refl
