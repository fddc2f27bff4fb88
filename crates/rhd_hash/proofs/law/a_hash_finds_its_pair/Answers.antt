use Rattle.rhd_hash.specs.Parts.{mixed}
use Rattle.rhd_hash.specs.Table.{HasOwnHashes}
use Rattle.rhd_hash.proofs.HashedPairs.{found_pair, pair_found, missing_pairs, pairs_missing}
use Rattle.rhd_hash.proofs.law.a_hash_finds_its_pair.Goals as goal

pub returns-clause-found : goal.returns-clause-found
unfolding HasOwnHashes
returns-clause-found g c = λ seeds ps hash p distinct. (found_pair (mixed seeds) hash p ps, λ h. pair_found (mixed seeds) hash p ps distinct h.0 h.1)

pub returns-clause-missing : goal.returns-clause-missing
returns-clause-missing g c = λ seeds ps hash. (missing_pairs (mixed seeds) hash ps, pairs_missing (mixed seeds) hash ps)
