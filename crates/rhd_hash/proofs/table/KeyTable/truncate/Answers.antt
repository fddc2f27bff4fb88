use Rattle.std.proofs.Common.{◌≡◌, List, map, take, sym, ap, subst, ◌∙◌}
use Rattle.rhd_hash.specs.declared.key.Key.{Key}
use Rattle.rhd_hash.specs.Covers.{Covers, HasNoScript}
use Rattle.rhd_hash.specs.Parts.{mixed}
use Rattle.rhd_hash.specs.Table.{Table, HasOwnHashes}
use Rattle.rhd_hash.specs.Slots.{hashed}
use Rattle.rhd_hash.proofs.Tables.{take-hashed, behind-hashed, apart-hashed, pairs-hashed}
use Rattle.rhd_hash.proofs.Covered.{taken_covered, taken_noted}
use Rattle.rhd_hash.proofs.table.KeyTable.truncate.Goals as goal
use Rattle.rhd_hash.proofs.table.KeyTable.truncate.Goals.{After-truncate}

-- what the slots are after it
slots_after : (g : _) (c : After-truncate g) → c.truncate.new.self.entries ≡ hashed (mixed c.self.inside.seeds) (take c.args.len (map (λ e. e.1) c.self.inside.slots.entries))
slots_after g c =
    let hash = mixed c.self.inside.seeds in
    c.truncate.ensures.entries ∙ ap (take c.args.len) c.self.invariant.behind ∙ take-hashed hash c.args.len _

pub invariant_of-self : goal.invariant_of-self
unfolding HasOwnHashes
invariant_of-self g c =
    let hash = mixed c.self.inside.seeds in
    let e = behind-hashed hash _ _ (slots_after g c) in
    let after = ap (map (λ e. e.1)) (slots_after g c) ∙ pairs-hashed hash _ in
    let P : List (Key × g.row.V.Denot) → Type 0 = λ qs. Covers 128 c.self.inside.marks c.self.inside.seeds qs in
    let fewer = taken_covered c.self.inside.seeds c.self.inside.marks (map (λ e. e.1) c.self.inside.slots.entries) c.args.len c.self.invariant.covered in
    record {
      behind = e;
      apart = apart-hashed hash _ e c.truncate.ensures.unique;
      covered = subst P (sym after) fewer;
      noted = λ none. subst (λ (qs : List (Key × g.row.V.Denot)). HasNoScript qs) (sym after) (taken_noted c.self.inside.scripts (map (λ e. e.1) c.self.inside.slots.entries) c.args.len c.self.invariant.noted none);
    }

pub returns : goal.returns
returns g c =
    let hash = mixed c.self.inside.seeds in
    let view : List (Key × g.row.V.Denot) → Table g.row.V.Denot = λ qs. record { seeds = c.self.inside.seeds; pairs = qs } in
    ap view (ap (map (λ e. e.1)) (slots_after g c) ∙ pairs-hashed hash _)
    ∙ ap (λ t. record { seeds = t.seeds; pairs = take c.args.len t.pairs }) c.self.view_is
