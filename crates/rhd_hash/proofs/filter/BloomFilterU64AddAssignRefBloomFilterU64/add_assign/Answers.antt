use Rattle.std.proofs.Common.{◌∙◌, ◌<◌, length, arith}
use Rattle.std.proofs.lemmas.List.{length-set}
use Rattle.rhd_hash.proofs.Filters.{joined-done, joined-left, joined-bytes}
use Rattle.rhd_hash.proofs.filter.BloomFilterU64AddAssignRefBloomFilterU64.add_assign.Goals as goal

pub loop-i-preserved : goal.loop-i-preserved
loop-i-preserved g c =
    let within : c.loop-i.i < length c.loop-i.bytes = omega arith in
    record {
      long = length-set c.loop-i.bytes c.loop-i.i _ ∙ c.loop-i.invariant.long;
      done = joined-done c.self.inside.bytes c.rhs.inside.bytes c.loop-i.bytes c.loop-i.i within c.loop-i.invariant.done c.loop-i.invariant.left;
      left = joined-left c.self.inside.bytes c.rhs.inside.bytes c.loop-i.bytes c.loop-i.i within c.loop-i.invariant.left;
    }

pub returns : goal.returns
returns g c =
    rw (← c.self.view_is, ← c.rhs.view_is)
    record { after = λ v. joined-bytes g.row.SIZE c.self.inside.bytes c.rhs.inside.bytes c.loop-i.bytes v c.self.told c.rhs.told c.loop-i.invariant.long (λ k h. c.loop-i.invariant.done k (omega arith)) }
