use Rattle.std.proofs.Common.{◌≡◌, List, map, slice_get, nat_eq, Option, Some, None, sym, ap, subst, ◌∙◌}
use Rattle.std.specs.Map.{lookup, keys_of}
use Rattle.std.specs.Option.{option_map}
use Rattle.rhd_hash.specs.declared.key.Key.{Key}
use Rattle.rhd_hash.specs.Keys.{key_eq, key_eq-Decides}
use Rattle.rhd_hash.specs.Parts.{mixed}
use Rattle.rhd_hash.specs.Table.{Table, HasOwnHashes, first_hashed}
use Rattle.rhd_hash.proofs.Tables.{lookup-hashed, lookup-none, lookup-clash}
use Rattle.rhd_hash.proofs.SetValue.{none_from}
use Rattle.rhd_hash.proofs.table.KeyTable.place_of.Goals as goal

pub returns-in_default-clause-absent : goal.returns-in_default-clause-absent
returns-in_default-clause-absent g c =
    let hash = mixed c.self.inside.seeds in
    let by : c.args.hash ≡ hash c.args.key.now = c.requires ∙ ap (λ t. mixed t.seeds c.args.key.now) (sym c.self.view_is) in
    let ps = map (λ e. e.1) c.self.inside.slots.entries in
    let unfound = sym (lookup-hashed hash (hash c.args.key.now) ps) ∙ sym (λ i. lookup (nat_eq (by i)) (c.self.invariant.behind i)) ∙ none_from _ c.in_default.ensures.found in
    ap (λ t. lookup (key_eq c.args.key.now) t.pairs) (sym c.self.view_is) ∙ lookup-none hash key_eq key_eq-Decides c.args.key.now ps unfound

pub returns-then-eq-clause-there : goal.returns-then-eq-clause-there
returns-then-eq-clause-there g c =
    let same = (key_eq-Decides c.in-Some-get_index.held.now c.args.key.now).0 (sym c.eq.ensures ∙ c.if-eq.true) in
    ap (option_map (λ p. p.0)) (sym c.in-Some-get_index.ensures) ∙ ap Some same

pub returns-else-eq-clause-absent : goal.returns-else-eq-clause-absent
unfolding HasOwnHashes
returns-else-eq-clause-absent g c =
    let hash = mixed c.self.inside.seeds in
    let key = c.args.key.now in
    let by : c.args.hash ≡ hash key = c.requires ∙ ap (λ t. mixed t.seeds key) (sym c.self.view_is) in
    let ps = map (λ e. e.1) c.self.inside.slots.entries in
    let found = sym (lookup-hashed hash (hash key) ps) ∙ sym (λ i. lookup (nat_eq (by i)) (c.self.invariant.behind i)) ∙ sym c.in-Some.ensures.value
    ∙ ap (λ t. slice_get t.pairs c.in-Some.place) c.self.view_is ∙ sym c.in-Some-get_index.ensures in
    ap (λ t. lookup (key_eq key) t.pairs) (sym c.self.view_is)
    ∙ lookup-clash hash key_eq key_eq-Decides key _ _ ps c.self.invariant.apart found (sym c.eq.ensures ∙ c.if-eq.false)
