use Rattle.std.proofs.Common.{◌≡◌, ℕ, Bool, false, List, map, slice_get, Option, Some, None, sym, ap, subst, ◌∙◌}
use Rattle.std.specs.Map.{keys_of}
use Rattle.indexmap.specs.Layout.{set_value_at}
use Rattle.rhd_hash.specs.declared.key.Key.{Key}
use Rattle.rhd_hash.specs.declared.mixer.Seeds.{Seeds}
use Rattle.rhd_hash.specs.Covers.{Covers, HasNoScript}
use Rattle.rhd_hash.specs.Parts.{mixed}
use Rattle.rhd_hash.specs.Table.{Table, HasOwnHashes}
use Rattle.rhd_hash.specs.Slots.{AreSlots, hashed}
use Rattle.rhd_hash.proofs.Tables.{pairs-hashed, behind-hashed}
use Rattle.rhd_hash.proofs.SetValue.{set-none, keys-set, set-hashed, set_covered, set_noted}
use Rattle.rhd_hash.proofs.table.KeyTable.set_value.Goals as goal
use Rattle.rhd_hash.proofs.table.KeyTable.set_value.Goals.{in-Some, in-None}

-- the slots after it
slots_after : (g : _) (c : goal.Joined-get_index_mut g) → c.match-get_index_mut.self-inside.slots.entries ≡ hashed (mixed c.self.inside.seeds) (set_value_at (map (λ e. e.1) c.self.inside.slots.entries) c.args.place c.args.value)
slots_after g c =
    let hash = mixed c.self.inside.seeds in
    let ps = map (λ e. e.1) c.self.inside.slots.entries in
    elim c.match-get_index_mut.branch [
      | in-Some w ↦ ap (λ s. s.slots.entries) w.self-inside-is ∙ (λ i. set_value_at (c.self.invariant.behind i) c.args.place (w.in-Some.pair.now.0, w.replace.ensures.after i))
          ∙ set-hashed hash c.args.place w.in-Some.pair.now.0 w.in-Some.pair.now.1 c.args.value ps (sym w.in-Some.ensures.value)
      | in-None w ↦ ap (λ s. s.slots.entries) w.self-inside-is ∙ c.self.invariant.behind ∙ ap (hashed hash) (sym (set-none c.args.place c.args.value ps (sym w.in-None.ensures.value)))
    ]

seeds_after : (g : _) (c : goal.Joined-get_index_mut g) → c.match-get_index_mut.self-inside.seeds ≡ c.self.inside.seeds
seeds_after g c = elim c.match-get_index_mut.branch [ in-Some w ↦ ap (λ s. s.seeds) w.self-inside-is | in-None w ↦ ap (λ s. s.seeds) w.self-inside-is ]

marks_after : (g : _) (c : goal.Joined-get_index_mut g) → c.match-get_index_mut.self-inside.marks ≡ c.self.inside.marks
marks_after g c = elim c.match-get_index_mut.branch [ in-Some w ↦ ap (λ s. s.marks) w.self-inside-is | in-None w ↦ ap (λ s. s.marks) w.self-inside-is ]

scripts_after : (g : _) (c : goal.Joined-get_index_mut g) → c.match-get_index_mut.self-inside.scripts ≡ c.self.inside.scripts
scripts_after g c = elim c.match-get_index_mut.branch [ in-Some w ↦ ap (λ s. s.scripts) w.self-inside-is | in-None w ↦ ap (λ s. s.scripts) w.self-inside-is ]

pub invariant_of-self : goal.invariant_of-self
unfolding HasOwnHashes
invariant_of-self g c =
    let hash = mixed c.self.inside.seeds in
    let ps = map (λ e. e.1) c.self.inside.slots.entries in
    let qs = set_value_at ps c.args.place c.args.value in
    let after = ap (map (λ e. e.1)) (slots_after g c) ∙ pairs-hashed hash qs in
    let I : AreSlots c.self.inside.seeds c.self.inside.marks c.self.inside.scripts c.match-get_index_mut.self-inside.slots.entries = record {
      behind = behind-hashed hash _ _ (slots_after g c);
      apart = subst (HasOwnHashes c.self.inside.seeds) (sym (ap keys_of after ∙ keys-set c.args.place c.args.value ps)) c.self.invariant.apart;
      covered = subst (λ (xs : List (Key × g.row.V.Denot)). Covers 128 c.self.inside.marks c.self.inside.seeds xs) (sym after) (set_covered c.self.inside.seeds c.self.inside.marks c.args.place c.args.value ps c.self.invariant.covered);
      noted = λ none. subst (λ (xs : List (Key × g.row.V.Denot)). HasNoScript xs) (sym after) (set_noted c.args.place c.args.value ps (c.self.invariant.noted none));
    } in
    subst (λ (x : Seeds). AreSlots x c.match-get_index_mut.self-inside.marks c.match-get_index_mut.self-inside.scripts c.match-get_index_mut.self-inside.slots.entries) (sym (seeds_after g c)) (
    subst (λ (x : List ℕ). AreSlots c.self.inside.seeds x c.match-get_index_mut.self-inside.scripts c.match-get_index_mut.self-inside.slots.entries) (sym (marks_after g c)) (
    subst (λ (x : Bool). AreSlots c.self.inside.seeds c.self.inside.marks x c.match-get_index_mut.self-inside.slots.entries) (sym (scripts_after g c)) I))

pub returns-clause-pairs : goal.returns-clause-pairs
returns-clause-pairs g c =
    let hash = mixed c.self.inside.seeds in
    let ps = map (λ e. e.1) c.self.inside.slots.entries in
    let qs = set_value_at ps c.args.place c.args.value in
    let view : Seeds → List (Key × g.row.V.Denot) → Table g.row.V.Denot = λ s xs. record { seeds = s; pairs = xs } in
    ap (λ s. view s (map (λ e. e.1) c.match-get_index_mut.self-inside.slots.entries)) (seeds_after g c)
    ∙ ap (view c.self.inside.seeds) (ap (map (λ e. e.1)) (slots_after g c) ∙ pairs-hashed hash qs)
    ∙ ap (λ t. record { seeds = t.seeds; pairs = set_value_at t.pairs c.args.place c.args.value }) c.self.view_is
