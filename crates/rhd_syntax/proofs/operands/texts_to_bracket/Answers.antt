use Rattle.std.proofs.Common.{◌≡◌, ◌++◌, ◌∷◌, [], sym, ◌∙◌}
use Rattle.rhd_syntax.specs.Reading.{comes, wording_at}
use Rattle.rhd_syntax.proofs.Loops.{turn}
use Rattle.rhd_syntax.proofs.operands.texts_to_bracket.Goals as goal

pub loop-most-preserved : goal.loop-most-preserved
loop-most-preserved c =
    let e : c.push.new.self ≡ c.loop-most.texts ++ c.in_ok-x.x ∷ [] = c.in_ok-push.ensures in
    rw e (sym (turn (comes 41) wording_at c.loop-most.texts c.loop-most.most c.loop-most.rest.now c.in_ok-x.x c.in_ok-x.after.now c.loop-most-test.true (sym c.comes.ensures ∙ c.if-comes.false) c.in_ok-x.ensures) ∙ c.loop-most.invariant)
