use Rattle.rhd_hash.proofs.Filters.{marked}
use Rattle.rhd_hash.proofs.filter.BloomFilterU64.mark.Goals as goal

pub returns : goal.returns
returns g c = rw (← c.self.view_is) (λ v. marked g.row.SIZE c.self.inside.bytes c.args.value v c.requires c.self.told)
