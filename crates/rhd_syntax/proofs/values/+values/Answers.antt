use Rattle.std.proofs.Common.{◌≡◌, ◌++◌, ◌∷◌, [], sym, ◌∙◌}
use Rattle.rhd_syntax.specs.Reading.{comes, tree_at}
use Rattle.rhd_syntax.proofs.Loops.{turn, entry_turn}
use Rattle.rhd_syntax.proofs.values.+values.Goals as goal

pub items_to-loop-most-preserved : goal.items_to-loop-most-preserved
items_to-loop-most-preserved t c =
    let l = c.loop-most in
    let e : c.push.new.self ≡ l.items ++ c.in_ok-x.x ∷ [] = c.in_ok-push.ensures in
    rw e (sym (turn (comes c.args.close) (tree_at c.args.depth) l.items l.most l.rest.now c.in_ok-x.x c.in_ok-x.after.now c.loop-most-test.true (sym c.comes.ensures ∙ c.if-comes.false) c.in_ok-x.ensures) ∙ l.invariant)

pub entries_to-loop-most-preserved : goal.entries_to-loop-most-preserved
entries_to-loop-most-preserved t c =
    let l = c.loop-most in
    sym (entry_turn (tree_at c.args.depth) l.entries c.put_new.new.entries l.most l.rest.now c.in_ok-name.name c.in_ok-name.after.now c.in_ok-value.after.now c.in_ok-value.value c.loop-most-test.true (sym c.comes.ensures ∙ c.if-comes.false) c.in_ok-name.ensures c.in_ok-value.ensures c.in_ok-put_new.ensures) ∙ l.invariant
