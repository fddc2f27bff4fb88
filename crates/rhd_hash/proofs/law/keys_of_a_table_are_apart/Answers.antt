use Rattle.rhd_hash.proofs.HashedPairs.{own_apart, apart_own}
use Rattle.rhd_hash.proofs.law.keys_of_a_table_are_apart.Goals as goal

pub returns : goal.returns
returns c = λ seeds keys. (own_apart seeds keys, apart_own seeds keys)
