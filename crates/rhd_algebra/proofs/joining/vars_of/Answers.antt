use Rattle.std.proofs.Common.{◌∷◌, ◌++◌, [], List, sym, ap, append_assoc, ◌∙◌}
use Rattle.rhd_value.specs.Tree.{Bytes, Tree}
use Rattle.rhd_algebra.proofs.joining.vars_of.Goals as goal

pub loop-name-preserved : goal.loop-name-preserved
loop-name-preserved c =
    let x : Bytes × Tree = (c.in-Some.name.now, c.in-Some.value.now) in
    let front = c.loop-name.invariant.0 in (
      front ++ x ∷ [],
      c.loop-name.invariant.1 ∙ ap (λ (t : List (Bytes × Tree)). front ++ t) c.in-Some.ensures.steps ∙ sym (append_assoc front (x ∷ []) c.next.new.self),
      c.in_ok-push.ensures.items ∙ (λ k. c.loop-name.invariant.2 k ++ (c.in_ok-dup.ensures k, c.in_ok-dup-2.ensures k) ∷ []),
    )
