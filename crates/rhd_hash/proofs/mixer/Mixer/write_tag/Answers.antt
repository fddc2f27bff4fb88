use Rattle.rhd_hash.proofs.Mixing.{after_append}
use Rattle.rhd_hash.proofs.mixer.Mixer.write_tag.Goals as goal

pub returns-in-Custom : goal.returns-in-Custom
returns-in-Custom c = rw (c.in-Custom.is, c.write_u32.ensures, c.write_u8-in-Custom.ensures) (after_append _ _ _)
