use Rattle.std.proofs.Common.{Option, IfNone, subst}
use Rattle.rhd_hash.specs.declared.key.Key.{Key}
use Rattle.rhd_hash.specs.Keys.{key_eq, key_eq-Decides}
use Rattle.rhd_hash.specs.Parts.{mixed}
use Rattle.rhd_hash.specs.Table.{HasOwnHashes}
use Rattle.rhd_hash.specs.Slots.{IsFree}
use Rattle.rhd_hash.proofs.Tables.{free-same}
use Rattle.rhd_hash.proofs.table.KeyTable.insert_shared.Goals as goal

pub returns-clause-refuses : goal.returns-clause-refuses
unfolding HasOwnHashes
returns-clause-refuses g c = λ held there clash.
    let s = c.args.self.now in
    let P : Option Key → Type 0 = λ o. IfNone o (IsFree s c.key-2.result.now) in
    let free : IsFree s c.args.key = subst (IsFree s) c.key-2.ensures (subst P c.in_default.is c.in_ok-held.ensures.free) in
    absurd (clash.differ ((key_eq-Decides held c.args.key).0 (free-same (mixed s.seeds) key_eq s.pairs c.args.key held c.in_ok-held.ensures.apart free there clash.one_hash)))
