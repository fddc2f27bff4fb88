use Rattle.std.proofs.Common.{sym, ap, ◌∙◌}
use Rattle.rhd_hash.specs.Table.{Table}
use Rattle.rhd_decl.specs.declared.declaration.Declaration.{Declaration}
use Rattle.rhd_table.specs.NativeIndex.{is_noted_by, places_from}
use Rattle.rhd_table.proofs.declarations.Declarations.dup.Goals as goal

pub invariant_of-result : goal.invariant_of-result
invariant_of-result c =
    let table = c.in_ok-dup_declarations.ensures in
    λ hash. c.in_ok-dup.ensures hash ∙ c.self.invariant hash ∙ ap (λ (t : Table Declaration). places_from 0 (is_noted_by t.seeds hash) t.pairs) (sym table)
