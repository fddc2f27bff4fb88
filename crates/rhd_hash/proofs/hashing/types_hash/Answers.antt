use Rattle.rhd_hash.specs.Parts.{types_part}
use Rattle.rhd_hash.proofs.Mixing.{after_append, answer_fresh}
use Rattle.rhd_hash.proofs.hashing.types_hash.Goals as goal

pub returns : goal.returns
unfolding types_part
returns c = rw (c.finish.ensures, c.write_count.ensures, c.write_tags.ensures, c.write_u8.ensures, c.get_hasher-mixer.ensures) (simp after_append (answer_fresh _ _))
