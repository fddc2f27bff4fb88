use Rattle.std.proofs.Common.{◌≡◌, List, map, nat_eq, sym, ap, subst, ◌∙◌}
use Rattle.std.specs.Map.{lookup}
use Rattle.std.specs.Option.{option_map}
use Rattle.indexmap.specs.IndexMap.{insert_entry}
use Rattle.rhd_hash.specs.Covers.{Covers, HasNoScript}
use Rattle.rhd_hash.specs.PutIn.{put_in}
use Rattle.rhd_hash.specs.declared.key.Key.{Key}
use Rattle.rhd_hash.specs.Keys.{key_eq, key_eq-Decides, is_script_key}
use Rattle.rhd_hash.specs.Parts.{mixed}
use Rattle.rhd_hash.specs.Table.{Table, HasOwnHashes}
use Rattle.rhd_hash.specs.Slots.{hashed, IsFree}
use Rattle.rhd_hash.proofs.Tables.{lookup-hashed, lookup-none, lookup-free, insert-hashed, behind-hashed, apart-hashed, pairs-hashed}
use Rattle.rhd_hash.proofs.Covered.{put_covered, put_noted}
use Rattle.rhd_hash.proofs.table.KeyTable.put.Goals as goal
use Rattle.rhd_hash.proofs.table.KeyTable.put.Goals.{After-value_of}

-- the hash at hand is that of the key
hashed_by : (g : _) (c : After-value_of g) → c.args.hash ≡ mixed c.self.inside.seeds c.args.key
hashed_by g c = c.requires.hash ∙ ap (λ t. mixed t.seeds c.args.key) (sym c.self.view_is)

-- what the slots are after the insert
slots_after : (g : _) (c : After-value_of g) → c.insert.new.self.entries ≡ hashed (mixed c.self.inside.seeds) (put_in key_eq c.args.key c.args.value (map (λ e. e.1) c.self.inside.slots.entries))
slots_after g c =
    let hash = mixed c.self.inside.seeds in
    let P : Table g.row.V.Denot → Type 0 = λ t. IsFree t c.args.key in
    let free = subst P (sym c.self.view_is) c.requires.free in
    c.in-Ok.ensures.entries ∙ (λ i. insert_entry nat_eq (c.self.invariant.behind i) (hashed_by g c i) (c.args.key, c.args.value))
    ∙ insert-hashed hash key_eq key_eq-Decides c.args.key c.args.value _ free

pub invariant_of-self : goal.invariant_of-self
unfolding HasOwnHashes
invariant_of-self g c =
    let hash = mixed c.self.inside.seeds in
    let e = behind-hashed hash _ _ (slots_after g c) in
    let after = ap (map (λ e. e.1)) (slots_after g c) ∙ pairs-hashed hash _ in
    let P : List (Key × g.row.V.Denot) → Type 0 = λ qs. Covers 128 c.mark.new.self c.self.inside.seeds qs in
    let put = put_covered c.self.inside.seeds c.self.inside.marks c.mark.new.self (map (λ e. e.1) c.self.inside.slots.entries) c.args.key c.args.value c.args.hash (hashed_by g c) c.mark.ensures c.self.invariant.covered in
    record {
      behind = e;
      apart = apart-hashed hash _ e c.in-Ok.ensures.unique;
      covered = subst P (sym after) put;
      noted = λ none. subst (λ (qs : List (Key × g.row.V.Denot)). HasNoScript qs) (sym after) (put_noted c.self.inside.scripts c.is_script-script.result (map (λ e. e.1) c.self.inside.slots.entries) c.args.key c.args.value (c.is_script-script.ensures ∙ ap is_script_key c.key.ensures) c.self.invariant.noted none);
    }

pub returns-in-Ok-clause-old : goal.returns-in-Ok-clause-old
returns-in-Ok-clause-old g c =
    let hash = mixed c.self.inside.seeds in
    let P : Table g.row.V.Denot → Type 0 = λ t. IsFree t c.args.key in
    let free = subst P (sym c.self.view_is) c.requires.free in
    c.value_of.ensures
    ∙ ap (option_map (λ p. p.1)) (c.in-Ok.ensures.old ∙ (λ i. lookup (nat_eq (hashed_by g c i)) (c.self.invariant.behind i)) ∙ lookup-hashed hash (hash c.args.key) _)
    ∙ lookup-free hash key_eq key_eq-Decides c.args.key _ free ∙ ap (λ t. lookup (key_eq c.args.key) t.pairs) c.self.view_is

pub returns-in-Ok-clause-pairs : goal.returns-in-Ok-clause-pairs
returns-in-Ok-clause-pairs g c =
    let hash = mixed c.self.inside.seeds in
    let view : List (Key × g.row.V.Denot) → Table g.row.V.Denot = λ qs. record { seeds = c.self.inside.seeds; pairs = qs } in
    ap view (ap (map (λ e. e.1)) (slots_after g c) ∙ pairs-hashed hash _)
    ∙ ap (λ t. record { seeds = t.seeds; pairs = put_in key_eq c.args.key c.args.value t.pairs }) c.self.view_is

pub returns-clause-absent : goal.returns-clause-absent
returns-clause-absent g c =
    let hash = mixed c.self.inside.seeds in
    let by : c.args.hash ≡ hash c.args.key = c.requires.hash ∙ ap (λ t. mixed t.seeds c.args.key) (sym c.self.view_is) in
    let ps = map (λ e. e.1) c.self.inside.slots.entries in
    let unfound = sym (lookup-hashed hash (hash c.args.key) ps) ∙ sym (λ i. lookup (nat_eq (by i)) (c.self.invariant.behind i)) ∙ c.in-Err.ensures.absent in
    ap (λ t. lookup (key_eq c.args.key) t.pairs) (sym c.self.view_is) ∙ lookup-none hash key_eq key_eq-Decides c.args.key ps unfound

pub returns-in-Ok-clause-apart : goal.returns-in-Ok-clause-apart
unfolding HasOwnHashes
returns-in-Ok-clause-apart g c =
    let hash = mixed c.self.inside.seeds in
    apart-hashed hash _ (behind-hashed hash _ _ (slots_after g c)) c.in-Ok.ensures.unique
