use Rattle.std.proofs.Common.{◌≡◌, true, is_some, sym, subst}
use Rattle.std.specs.List.{AllByRecursion}
use Rattle.rhd_hash.specs.Table.{Table}
use Rattle.rhd_decl.specs.declared.declaration.Declaration.{Declaration}
use Rattle.rhd_table.specs.NativeIndex.{IsIndex}
use Rattle.rhd_table.proofs.Lookups.{first}
use Rattle.rhd_table.proofs.PutParts.{all_still, index_all}
use Rattle.rhd_table.proofs.growing.grow_in.Goals as goal

pub replace_all-requires : goal.replace_all-requires
replace_all-requires c =
    let old = c.args.table.now in
    let P : Table Declaration → Type 0 = λ t. AllByRecursion (λ p. is_some (first p.0 t.pairs) ≡ true) c.args.there.items in
    record { there = subst P (sym c.in-Ok.ensures.ok) (all_still c.args.there.items c.args.new.items old.pairs c.requires.there) }

pub returns-in-Ok-note_places-clause-noted : goal.returns-in-Ok-note_places-clause-noted
returns-in-Ok-note_places-clause-noted c =
    let old = c.args.table.now in
    let grown = c.insert_all.new.table in
    let natives = c.note_places.new.natives in
    let P : Table Declaration → Type 0 = λ t. AllByRecursion (λ p. is_some (first p.0 t.pairs) ≡ true) c.args.there.items in
    let still = subst P (sym c.in-Ok.ensures.ok) (all_still c.args.there.items c.args.new.items old.pairs c.requires.there) in
    subst (λ (t : Table Declaration). IsIndex natives t.seeds t.pairs) (sym c.replace_all.ensures) (index_all natives grown.seeds c.args.there.items grown.pairs c.in-Ok-note_places.ensures.ok still)
