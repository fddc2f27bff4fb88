use Rattle.rhd_hash.specs.Parts.{this_part}
use Rattle.rhd_hash.proofs.Mixing.{after_append, answer_fresh}
use Rattle.rhd_hash.proofs.hashing.this_hash.Goals as goal

pub returns : goal.returns
unfolding this_part
returns c = rw (c.finish.ensures, c.write_text.ensures, c.write_u8.ensures, c.get_hasher-mixer.ensures) (simp after_append (answer_fresh _ _))
