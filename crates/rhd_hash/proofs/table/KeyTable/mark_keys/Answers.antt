use Rattle.std.proofs.Common.{ℕ, ◌||◌, Bool, map, ap, ◌∙◌, sym}
use Rattle.std.specs.Map.{keys_of}
use Rattle.rhd_hash.specs.Filter.{is_marked}
use Rattle.rhd_hash.specs.Parts.{mixed}
use Rattle.rhd_hash.specs.Table.{Table}
use Rattle.rhd_hash.proofs.Covered.{has_slot_of, next_marked, whole_marked, all_covered, neither}
use Rattle.rhd_hash.proofs.Tables.{keys-hashed}
use Rattle.rhd_hash.proofs.table.KeyTable.mark_keys.Goals as goal

-- what is marked at the end
abbrev whole : (g : _) → goal.In-None g → ℕ → Bool
whole g c v = is_marked g.row.SIZE c.args.filter.now v || has_slot_of g.row.SIZE v (map (mixed c.args.self.now.seeds) (keys_of c.args.self.now.pairs))

pub loop-hash-init : goal.loop-hash-init
loop-hash-init g c = λ v.
    let hash = mixed c.self.inside.seeds in
    ap (λ hs. is_marked g.row.SIZE c.args.filter.now v || has_slot_of g.row.SIZE v hs)
    (c.into_iter-hash-iterator.ensures.into_iter_gives ∙ c.keys-hash-items.ensures.rest ∙ ap keys_of c.self.invariant.behind ∙ keys-hashed hash _
    ∙ ap (λ (t : Table g.row.V.Denot). map (mixed t.seeds) (keys_of t.pairs)) c.self.view_is)

pub loop-hash-preserved : goal.loop-hash-preserved
loop-hash-preserved g c =
    next_marked g.row.SIZE c.loop-hash.filter c.mark.new.self c.loop-hash.hash-iterator c.next.new.self c.in-Some.hash.now _ c.in-Some.ensures.steps c.mark.ensures c.loop-hash.invariant

pub returns-clause-kept : goal.returns-clause-kept
returns-clause-kept g c = λ v absent.
    (neither (is_marked g.row.SIZE c.args.filter.now v) _ (sym (whole_marked g.row.SIZE c.loop-hash.filter c.loop-hash.hash-iterator (whole g c) c.in-None.ensures.steps.0 c.loop-hash.invariant v) ∙ absent)).0

pub returns-clause-covers : goal.returns-clause-covers
returns-clause-covers g c =
    all_covered g.row.SIZE c.args.self.now.seeds c.args.filter.now c.loop-hash.filter c.args.self.now.pairs (whole_marked g.row.SIZE c.loop-hash.filter c.loop-hash.hash-iterator (whole g c) c.in-None.ensures.steps.0 c.loop-hash.invariant)
