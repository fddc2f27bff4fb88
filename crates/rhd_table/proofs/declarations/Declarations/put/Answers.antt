use Rattle.std.proofs.Common.{◌≡◌, ℕ, ◌++◌, length, take, sym, ap, subst, ◌∙◌}
use Rattle.std.specs.Map.{lookup}
use Rattle.rhd_hash.specs.Keys.{key_eq}
use Rattle.rhd_hash.specs.Table.{Table}
use Rattle.rhd_decl.specs.declared.declaration.Declaration.{Declaration}
use Rattle.rhd_table.specs.Pairs.{Pairs, put}
use Rattle.rhd_table.specs.NativeIndex.{IsIndex, is_noted_by, noted, place_at}
use Rattle.rhd_table.proofs.Places.{index_put_there, index_put_last, take_put}
use Rattle.rhd_table.proofs.Puts.{is_there, is_absent}
use Rattle.rhd_table.proofs.declarations.Declarations.put.Goals as goal
use Rattle.rhd_table.proofs.declarations.Declarations.put.Goals.{After-truncate}

pub invariant_of-self : goal.invariant_of-self
invariant_of-self c =
    let same = c.in-Err.ensures.unchanged in
    subst (λ (t : Table Declaration). IsIndex c.self.inside.natives t.seeds t.pairs) (sym same) c.self.invariant

pub invariant_of-self-in-Ok-true : goal.invariant_of-self-in-Ok-true
invariant_of-self-in-Ok-true c =
    let es = c.self.inside.table.pairs in
    let key = c.args.key in
    let there = is_there (lookup (key_eq key) es) (sym c.in-Ok-true.ensures.replaced ∙ c.in-Ok-true.field-0-test) in
    let index = index_put_there c.self.inside.natives c.self.inside.table.seeds key c.args.declaration es c.self.invariant there in
    subst (λ (t : Table Declaration). IsIndex c.self.inside.natives t.seeds t.pairs) (sym c.in-Ok-true.ensures.pairs) index

pub invariant_of-self-in-Ok : goal.invariant_of-self-in-Ok
invariant_of-self-in-Ok c =
    let es = c.self.inside.table.pairs in
    let key = c.args.key in
    let d = c.args.declaration in
    let old = c.self.inside.natives in
    let new = c.note_place.new.natives in
    let seeds = c.self.inside.table.seeds in
    let puts = c.in-Ok-false.ensures.pairs in
    let absent = is_absent (lookup (key_eq key) es) (sym c.in-Ok-false.ensures.replaced ∙ c.in-Ok-false.field-0-test) in
    let P : Table Declaration → ℕ → Type 0 = λ t place. (hash : ℕ) → noted new hash ≡ noted old hash ++ place_at (is_noted_by t.seeds hash) t.pairs place in
    let notes : P (record { seeds = seeds; pairs = put key d es }) (length es) =
    subst (λ (t : Table Declaration). P t (length es)) puts (subst (λ (place : ℕ). P c.put_pair.new.table place) c.len-place.ensures c.in-Ok.ensures.ok) in
    subst (λ (t : Table Declaration). IsIndex new t.seeds t.pairs) (sym puts) (index_put_last old new seeds key d es c.self.invariant absent notes)

-- what was put last is taken out again
as_before : (c : After-truncate) → c.truncate.new.self ≡ c.self.inside.table
as_before c =
    let es = c.self.inside.table.pairs in
    let key = c.args.key in
    let absent = is_absent (lookup (key_eq key) es) (sym c.in-Ok-false.ensures.replaced ∙ c.in-Ok-false.field-0-test) in
    let table : Pairs → Table Declaration = λ ps. record { seeds = c.self.inside.table.seeds; pairs = ps } in
    c.truncate.ensures ∙ (λ i. record (c.in-Ok-false.ensures.pairs i) { pairs = take (c.len-place.ensures i) (c.in-Ok-false.ensures.pairs i).pairs })
    ∙ ap table (take_put key c.args.declaration es absent)

pub invariant_of-self-in-Err-note_place : goal.invariant_of-self-in-Err-note_place
invariant_of-self-in-Err-note_place c =
    let es = c.self.inside.table.pairs in
    let index : IsIndex c.note_place.new.natives c.self.inside.table.seeds es = λ hash. c.in-Err-note_place.ensures.err hash ∙ c.self.invariant hash in
    subst (λ (t : Table Declaration). IsIndex c.note_place.new.natives t.seeds t.pairs) (sym (as_before c)) index

pub returns-in-Err-note_place-clause-unchanged : goal.returns-in-Err-note_place-clause-unchanged
returns-in-Err-note_place-clause-unchanged c = as_before c ∙ c.self.view_is
