use Rattle.rhd_hash.specs.Parts.{path_bytes}
use Rattle.rhd_hash.proofs.Mixing.{after_append}
use Rattle.rhd_hash.proofs.mixer.Mixer.write_path.Goals as goal

pub returns : goal.returns
unfolding path_bytes
returns c = rw (c.write_count.ensures, c.write_texts.ensures) (after_append _ _ _)
