use Rattle.std.proofs.Common.{rules, ap, ◌∙◌}
use Rattle.rhd_hash.specs.Table.{Table}
use Rattle.rhd_decl.specs.declared.declaration.Declaration.{Declaration}
use Rattle.rhd_table.proofs.Puts.{copied_next, distinct_own}
use Rattle.rhd_table.proofs.declarations.dup_declarations.Goals as goal

pub loop-key-init : goal.loop-key-init
loop-key-init c = (search rules, distinct_own _ _ c.iter-key-items.ensures.apart, search rules)

pub loop-key-preserved : goal.loop-key-preserved
loop-key-preserved c =
    let l = c.loop-key in
    let puts = ap (λ (t : Table Declaration). t.pairs) c.in_ok-copy_pair.ensures in
    (copied_next c.in-Some.field-0.now.0 c.in-Some.field-0.now.1 _ _ _ _ _ l.invariant.0 c.in-Some.ensures.steps l.invariant.1 puts, l.invariant.1, ap (λ (t : Table Declaration). t.seeds) c.in_ok-copy_pair.ensures ∙ l.invariant.2)
