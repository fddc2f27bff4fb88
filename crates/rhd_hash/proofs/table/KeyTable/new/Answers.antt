use Rattle.std.proofs.Common.{refl}
use Rattle.std.specs.List.{IsDistinct}
use Rattle.rhd_hash.specs.Covers.{Covers, HasNoScript}
use Rattle.rhd_hash.specs.Table.{HasOwnHashes}
use Rattle.rhd_hash.proofs.table.KeyTable.new.Goals as goal

pub invariant_of-result : goal.invariant_of-result
unfolding HasOwnHashes IsDistinct Covers HasNoScript
invariant_of-result g c = rw c.with_hasher.ensures.empty record { behind = refl; apart = tt; covered = λ key absent. refl; noted = λ none key asked. refl }
