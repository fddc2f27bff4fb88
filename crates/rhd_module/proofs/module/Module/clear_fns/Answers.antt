use Rattle.std.proofs.Common.{◌||◌, sym, ap, ◌∙◌, true≢false}
use Rattle.std.specs.List.{list_any}
use Rattle.rhd_decl.specs.Flags.{Flagged}
use Rattle.rhd_table.specs.Marks.{may_be_dynamic, lists_dynamic}
use Rattle.rhd_module.proofs.module.Module.clear_fns.Goals as goal

pub invariant_of-self : goal.invariant_of-self
invariant_of-self c = (
  λ v. c.new-self-inside.ensures v ∙ (λ i. list_any (λ p. may_be_dynamic (sym c.new.ensures i).seeds v p.0) (sym c.new.ensures i).pairs || lists_dynamic (sym c.new.ensures i).seeds v (sym c.new-3.ensures i)),
  λ is. absurd (true≢false (sym is ∙ ap (λ (f : Flagged). f.indexed) c.set_indexed.ensures)),
)
