use Rattle.std.proofs.Common.{◌≡◌, true, sym, ◌∙◌}
use Rattle.rhd_manifest.specs.Listing.{is_none_of}
use Rattle.rhd_module.proofs.Covered.{shown_covered}
use Rattle.rhd_module.proofs.module.Module.own_marks.Goals as goal

pub returns-then-is_empty-clause-covers : goal.returns-then-is_empty-clause-covers
returns-then-is_empty-clause-covers c =
    let none : is_none_of c.self.inside.listed ≡ true = sym c.is_empty.ensures ∙ c.if-is_empty.true in
    rw (← c.self.view_is) (shown_covered 128 c.key_marks.result.now c.self.inside.eager.seeds c.self.inside.eager.pairs c.self.inside.listed none c.key_marks.ensures)
