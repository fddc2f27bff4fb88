use Rattle.std.proofs.Common.{sym}
use Rattle.rhd_hash.proofs.Mixing.{after_zeros}
use Rattle.rhd_hash.proofs.mixer.Mixer.write_zeros.Goals as goal

pub returns : goal.returns
returns c = sym (after_zeros c.args.self.now)
