use Rattle.std.proofs.Common.{length}
use Rattle.rhd_hash.proofs.key.+types_match.Given as goal

abbrev pub decreases-types_match : goal.decreases-types_match
decreases-types_match l = length l.types.now
