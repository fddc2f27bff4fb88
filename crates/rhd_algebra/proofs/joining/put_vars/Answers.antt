use Rattle.std.proofs.Common.{◌∷◌, ◌++◌, [], List, sym, ap, append_assoc, ◌∙◌}
use Rattle.rhd_value.specs.Tree.{Bytes, Tree}
use Rattle.rhd_module.specs.Contents.{with_var}
use Rattle.rhd_module.proofs.Combined.{vars_append}
use Rattle.rhd_algebra.proofs.joining.put_vars.Goals as goal

pub loop-name-preserved : goal.loop-name-preserved
loop-name-preserved c =
    let x : Bytes × Tree = (c.in-Some.name.now, c.in-Some.value.now) in
    let front = c.loop-name.invariant.0 in
    let old = c.args.made.now in (
      front ++ x ∷ [],
      c.loop-name.invariant.1 ∙ ap (λ (t : List (Bytes × Tree)). front ++ t) c.in-Some.ensures.steps ∙ sym (append_assoc front (x ∷ []) c.next.new.self),
      c.in_ok-set_var.ensures.ok ∙ (λ k. with_var (c.in_ok-dup.ensures k) (c.in_ok-dup-2.ensures k) (c.loop-name.invariant.2 k)) ∙ ap (λ (vs : List (Bytes × Tree)). record old { own = record old.own { vars = vs } }) (sym (vars_append front (x ∷ []) old.own.vars)),
    )
