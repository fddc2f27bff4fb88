use Rattle.std.proofs.Common.{◌∷◌, [], ◌++◌, false, sym, ap, subst, ◌∙◌, append_assoc}
use Rattle.rhd_hash.specs.declared.key.Key.{Key}
use Rattle.rhd_table.specs.Indexed.{Fills}
use Rattle.rhd_table.specs.Marks.{may_be_dynamic}
use Rattle.rhd_table.specs.Pairs.{Pairs}
use Rattle.rhd_table.proofs.Fills.{marks_more}
use Rattle.rhd_table.proofs.tree_index.TreeIndex.mark_all.Goals as goal

pub loop-key-preserved : goal.loop-key-preserved
loop-key-preserved c =
    let x = c.in-Some.field-0.now in
    let front = c.loop-key.invariant.0 in
    let marked = subst (λ (k : Key). Fills c.loop-key.self c.mark.new.self [] (λ v. may_be_dynamic c.loop-key.self.seeds v k) false) c.key.ensures c.mark.ensures in (
      front ++ x ∷ [],
      c.loop-key.invariant.1 ∙ ap (λ (t : Pairs). front ++ t) c.in-Some.ensures.steps ∙ sym (append_assoc front (x ∷ []) c.next.new.self),
      marks_more c.args.self.now c.loop-key.self c.mark.new.self (λ seeds v p. may_be_dynamic seeds v p.0) x front c.loop-key.invariant.2 marked,
    )
