use Rattle.std.proofs.Common.{◌≡◌, length, ap, subst, rules, ◌∙◌}
use Rattle.std.specs.List.{list_any}
use Rattle.rhd_hash.specs.Parts.{untyped}
use Rattle.rhd_hash.specs.Table.{Table}
use Rattle.rhd_decl.specs.declared.declaration.Declaration.{Declaration}
use Rattle.rhd_table.specs.NativeIndex.{dynamic_matches, matches_at, noted}
use Rattle.rhd_table.proofs.Places.{matches_at_places}
use Rattle.rhd_table.proofs.declarations.Declarations.may_match.Goals as goal

pub loop-place-init : goal.loop-place-init
loop-place-init c =
    let inside = c.self.inside in
    let exact = c.args.exact in
    let name = c.args.name.now in
    let kinds = c.args.kinds.now in
    let places = c.places-place-items.result.now in
    let hashed : c.calc_untyped_fn_hash-hash.result ≡ untyped inside.table.seeds name (length kinds) = search rules in
    let P : Table Declaration → Type 0 = λ t. list_any (matches_at t.pairs exact name kinds) places ≡ list_any (λ p. dynamic_matches exact name kinds p.0) t.pairs in
    subst P c.self.view_is (
    ap (list_any (matches_at inside.table.pairs exact name kinds)) (c.places-place-items.ensures ∙ ap (noted inside.natives) hashed)
    ∙ matches_at_places inside.natives inside.table.seeds inside.table.pairs exact name kinds c.self.invariant)
