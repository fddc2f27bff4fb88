use Rattle.std.proofs.Common.{append_assoc}
use Rattle.rhd_hash.specs.Parts.{fn_bytes}
use Rattle.rhd_hash.proofs.Mixing.{after_append, answer_fresh}
use Rattle.rhd_hash.proofs.hashing.fn_hash.Goals as goal

pub returns : goal.returns
unfolding fn_bytes
returns c = rw (c.finish.ensures, c.write_count.ensures, c.write_text.ensures, c.write_path.ensures, c.write_u8.ensures, c.get_hasher-mixer.ensures) (simp (after_append, append_assoc) (answer_fresh _ _))
