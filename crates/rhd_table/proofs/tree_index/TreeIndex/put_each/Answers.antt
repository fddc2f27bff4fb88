use Rattle.std.proofs.Common.{◌≡◌, ◌∷◌, [], ◌++◌, sym, ap, ◌∙◌, append_assoc}
use Rattle.rhd_table.specs.Pairs.{Pairs}
use Rattle.rhd_table.proofs.Fills.{if_err, clash_own}
use Rattle.rhd_table.proofs.tree_index.TreeIndex.put_each.Goals as goal

pub returns-in_err-put_pairs-clause-clash : goal.returns-in_err-put_pairs-clause-clash
returns-in_err-put_pairs-clause-clash c =
    let ps = c.args.declarations.now.pairs in
    let x = c.in-Some.field-0.now in
    let front = c.next.new.self.iter in
    let done = c.loop-key.invariant.0 in
    let source = ap (λ r. r.iter) c.into_iter-key-iterator.ensures.into_iter_gives ∙ c.rev-key-items.ensures.source ∙ c.iter.ensures.pairs in
    let all : ps ≡ front ++ x ∷ done = sym source ∙ c.loop-key.invariant.1 ∙ ap (λ (t : Pairs). t ++ done) c.in-Some.ensures.steps ∙ append_assoc front (x ∷ []) done in
    if_err c.from_residual.result c.in_err-put_pairs.field-0.0 _ c.from_residual.ensures
    (clash_own c.args.self.now c.loop-key.self c.args.path.now front x done ps _ _ c.in_err-put_pairs.field-0.0 all c.loop-key.invariant.2 c.in_err-put_pairs.ensures.clash)
