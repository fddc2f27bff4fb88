use Rattle.std.proofs.Common.{append_assoc}
use Rattle.rhd_hash.specs.Parts.{var_bytes}
use Rattle.rhd_hash.proofs.Mixing.{after_append, answer_fresh}
use Rattle.rhd_hash.proofs.Paths.{count_of}
use Rattle.rhd_hash.proofs.hashing.calc_var_hash.Goals as goal

pub returns : goal.returns
unfolding var_bytes
returns c = rw (c.finish.ensures, c.write_text.ensures, c.write_path.ensures, c.behind_first.ensures, c.write_u8.ensures, c.get_hasher-mixer.ensures, count_of c.args.path.now) (simp (after_append, append_assoc) (answer_fresh _ _))
