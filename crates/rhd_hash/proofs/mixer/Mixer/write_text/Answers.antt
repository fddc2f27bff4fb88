use Rattle.rhd_hash.proofs.Mixing.{after_append}
use Rattle.rhd_hash.proofs.mixer.Mixer.write_text.Goals as goal

pub returns : goal.returns
returns c = rw (c.write.ensures, c.as_bytes.ensures.value, c.as_str.ensures, c.write_count.ensures, c.len.ensures) (after_append _ _ _)
