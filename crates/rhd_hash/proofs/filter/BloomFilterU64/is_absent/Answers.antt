use Rattle.rhd_hash.specs.Filter.{is_marked}
use Rattle.rhd_hash.proofs.Filters.{absent-bit}
use Rattle.rhd_hash.proofs.filter.BloomFilterU64.is_absent.Goals as goal

pub returns : goal.returns
unfolding is_marked
returns g c = rw (← c.self.view_is) (absent-bit _ _)
