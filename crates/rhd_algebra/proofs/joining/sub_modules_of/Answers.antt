use Rattle.std.proofs.Common.{◌∷◌, ◌++◌, [], List, sym, ap, append_assoc, ◌∙◌, Global}
use Rattle.std.specs.declared.rc.Rc.{Rc}
use Rattle.rhd_value.specs.Tree.{Bytes}
use Rattle.rhd_module.specs.Tree.{ModuleTree, subs_of}
use Rattle.rhd_module.proofs.JoinParts.{subs_last}
use Rattle.rhd_algebra.proofs.joining.sub_modules_of.Goals as goal

pub loop-name-preserved : goal.loop-name-preserved
loop-name-preserved c =
    let x : Bytes × Rc ModuleTree Global = (c.in-Some.name.now, c.in-Some.child.now) in
    let front = c.loop-name.invariant.0 in (
      front ++ x ∷ [],
      c.loop-name.invariant.1 ∙ ap (λ (t : List (Bytes × Rc ModuleTree Global)). front ++ t) c.in-Some.ensures.steps ∙ sym (append_assoc front (x ∷ []) c.next.new.self),
      ap subs_of c.in_ok-push.ensures.items ∙ subs_last {Z = Global} c.loop-name.subs.items front (c.in_ok-dup.field-0, c.in_ok-clone.field-0) x c.loop-name.invariant.2 c.in_ok-dup.ensures c.in_ok-clone.ensures.cases,
    )
