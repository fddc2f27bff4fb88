use Rattle.std.proofs.Common.{◌≡◌, ap, ◌∙◌, subst, sym}
use Rattle.std.specs.Map.{keys_of}
use Rattle.rhd_hash.specs.declared.key.Key.{Key}
use Rattle.rhd_hash.specs.Keys.{key_eq, key_eq-Decides}
use Rattle.rhd_hash.specs.Parts.{mixed}
use Rattle.rhd_hash.specs.PutIn.{put_in}
use Rattle.rhd_hash.specs.Table.{Table, HasOwnHashes}
use Rattle.rhd_hash.proofs.Tables.{free-same}
use Rattle.rhd_hash.proofs.SetValue.{put-there, lookup-there, found-there, keys-set}
use Rattle.rhd_hash.proofs.table.KeyTable.insert.Goals as goal

pub returns-in-Some-clause-old : goal.returns-in-Some-clause-old
unfolding HasOwnHashes
returns-in-Some-clause-old g c =
    let s = c.args.self.now in
    c.set_value.ensures.old ∙ lookup-there (mixed s.seeds) key_eq key_eq-Decides c.in-Some.place c.args.key s.pairs c.in-Some.ensures.apart c.in-Some.ensures.there

pub returns-in-Some-clause-pairs : goal.returns-in-Some-clause-pairs
unfolding HasOwnHashes
returns-in-Some-clause-pairs g c =
    let s = c.args.self.now in
    c.set_value.ensures.pairs ∙ ap (λ ps. record s { pairs = ps }) (put-there (mixed s.seeds) key_eq key_eq-Decides c.in-Some.place c.args.key c.args.value s.pairs c.in-Some.ensures.apart c.in-Some.ensures.there)

pub returns-in-Some-clause-apart : goal.returns-in-Some-clause-apart
unfolding HasOwnHashes
returns-in-Some-clause-apart g c =
    let s = c.args.self.now in
    subst (λ (t : Table g.row.V.Denot). HasOwnHashes t.seeds (keys_of t.pairs)) (sym c.set_value.ensures.pairs)
    (subst (HasOwnHashes s.seeds) (sym (keys-set c.in-Some.place c.args.value s.pairs)) c.in-Some.ensures.apart)

pub returns-in-Some-clause-refuses : goal.returns-in-Some-clause-refuses
unfolding HasOwnHashes
returns-in-Some-clause-refuses g c = λ held there clash.
    let s = c.args.self.now in
    let hash = mixed s.seeds in
    let free = found-there hash key_eq key_eq-Decides c.in-Some.place c.args.key s.pairs c.in-Some.ensures.apart c.in-Some.ensures.there in
    absurd (clash.differ ((key_eq-Decides held c.args.key).0 (free-same hash key_eq s.pairs c.args.key held c.in-Some.ensures.apart free there clash.one_hash)))
