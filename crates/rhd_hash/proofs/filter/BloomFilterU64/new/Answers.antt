use Rattle.rhd_hash.proofs.Filters.{unmarked}
use Rattle.rhd_hash.proofs.filter.BloomFilterU64.new.Goals as goal

pub returns : goal.returns
returns g c = unmarked _ _
