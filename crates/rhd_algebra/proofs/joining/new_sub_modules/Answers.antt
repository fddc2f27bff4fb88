use Rattle.std.proofs.Common.{◌∷◌, ◌++◌, [], List, sym, ap, append_assoc, ◌∙◌, Global}
use Rattle.std.specs.declared.rc.Rc.{Rc}
use Rattle.rhd_value.specs.Tree.{Bytes}
use Rattle.rhd_module.specs.Tree.{ModuleTree, subs_of}
use Rattle.rhd_module.proofs.JoinParts.{new_last, new_left}
use Rattle.rhd_algebra.proofs.joining.new_sub_modules.Goals as goal

pub loop-name-preserved-in_ok-push : goal.loop-name-preserved-in_ok-push
loop-name-preserved-in_ok-push c =
    let x : Bytes × Rc ModuleTree Global = (c.in-Some.name.now, c.in-Some.child.now) in
    let front = c.loop-name.invariant.0 in
    let held = c.args.own.now.subs in
    let new = sym c.contains_sub_module.ensures ∙ c.if-not-contains_sub_module.true in (
      front ++ x ∷ [],
      c.loop-name.invariant.1 ∙ ap (λ (t : List (Bytes × Rc ModuleTree Global)). front ++ t) c.in-Some.ensures.steps ∙ sym (append_assoc front (x ∷ []) c.next.new.self),
      ap subs_of c.in_ok-push.ensures.items ∙ new_last {Z = Global} held c.loop-name.subs.items front (c.in_ok-dup.field-0, c.in_ok-clone.field-0) x c.loop-name.invariant.2 c.in_ok-dup.ensures c.in_ok-clone.ensures.cases new,
    )

pub loop-name-preserved : goal.loop-name-preserved
loop-name-preserved c =
    let x : Bytes × Rc ModuleTree Global = (c.in-Some.name.now, c.in-Some.child.now) in
    let front = c.loop-name.invariant.0 in
    let held = c.args.own.now.subs in
    let there = sym c.contains_sub_module.ensures ∙ c.if-not-contains_sub_module.false in (
      front ++ x ∷ [],
      c.loop-name.invariant.1 ∙ ap (λ (t : List (Bytes × Rc ModuleTree Global)). front ++ t) c.in-Some.ensures.steps ∙ sym (append_assoc front (x ∷ []) c.next.new.self),
      new_left {Z = Global} held c.loop-name.subs.items front x c.loop-name.invariant.2 there,
    )
