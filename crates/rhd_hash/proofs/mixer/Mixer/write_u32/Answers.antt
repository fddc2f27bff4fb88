use Rattle.std.proofs.Common.{rules}
use Rattle.rhd_hash.specs.Parts.{four_bytes}
use Rattle.rhd_hash.proofs.mixer.Mixer.write_u32.Goals as goal

pub returns : goal.returns
unfolding four_bytes
returns c = search rules
