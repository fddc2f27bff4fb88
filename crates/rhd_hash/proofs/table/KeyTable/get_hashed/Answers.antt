use Rattle.std.proofs.Common.{◌≡◌, sym, ap, ◌∙◌}
use Rattle.rhd_hash.specs.Covers.{Covers}
use Rattle.rhd_hash.specs.Filter.{is_marked}
use Rattle.rhd_hash.specs.Keys.{key_eq, key_eq-Decides}
use Rattle.rhd_hash.specs.Parts.{mixed}
use Rattle.rhd_hash.specs.Table.{HasOwnHashes, first_hashed}
use Rattle.rhd_hash.proofs.Covered.{not_marked}
use Rattle.rhd_hash.proofs.Tables.{lookup-none, lookup-held, lookup-clash}
use Rattle.rhd_hash.proofs.table.KeyTable.get_hashed.Goals as goal

pub returns-then-is_absent : goal.returns-then-is_absent
unfolding Covers
returns-then-is_absent g c =
    let t = c.self.inside in
    let e : c.hash_under-hash.result ≡ mixed t.seeds c.args.key.now = c.hash_under-hash.ensures in
    let absent = not_marked (is_marked 128 t.marks c.hash_under-hash.result) c.is_absent.result c.is_absent.ensures c.if-is_absent.true in
    rw (← c.self.view_is) (sym (c.self.invariant.covered c.args.key.now (ap (is_marked 128 t.marks) (sym e) ∙ absent)))

pub returns-then-eq : goal.returns-then-eq
returns-then-eq g c =
    let s = c.args.self.now in
    let e : c.hash_under-hash.result ≡ mixed s.seeds c.args.key.now = c.hash_under-hash.ensures ∙ ap (λ t. mixed t.seeds c.args.key.now) c.self.view_is in
    sym (lookup-held (mixed s.seeds) key_eq key_eq-Decides c.args.key.now _ _ s.pairs (ap (λ h. first_hashed (mixed s.seeds) h s.pairs) (sym e) ∙ sym c.in-Some.ensures.pair) (ap (key_eq c.in-Some.held.now) (sym c.key.ensures) ∙ sym c.eq.ensures ∙ c.if-eq.true))

pub returns-else-eq : goal.returns-else-eq
unfolding HasOwnHashes
returns-else-eq g c =
    let s = c.args.self.now in
    let e : c.hash_under-hash.result ≡ mixed s.seeds c.args.key.now = c.hash_under-hash.ensures ∙ ap (λ t. mixed t.seeds c.args.key.now) c.self.view_is in
    sym (lookup-clash (mixed s.seeds) key_eq key_eq-Decides c.args.key.now _ _ s.pairs c.in-Some.ensures.apart (ap (λ h. first_hashed (mixed s.seeds) h s.pairs) (sym e) ∙ sym c.in-Some.ensures.pair) (ap (key_eq c.in-Some.held.now) (sym c.key.ensures) ∙ sym c.eq.ensures ∙ c.if-eq.false))

pub returns-in-None : goal.returns-in-None
returns-in-None g c =
    let s = c.args.self.now in
    let e : c.hash_under-hash.result ≡ mixed s.seeds c.args.key.now = c.hash_under-hash.ensures ∙ ap (λ t. mixed t.seeds c.args.key.now) c.self.view_is in
    sym (lookup-none (mixed s.seeds) key_eq key_eq-Decides c.args.key.now s.pairs (ap (λ h. first_hashed (mixed s.seeds) h s.pairs) (sym e) ∙ sym c.in-None.ensures.pair))
