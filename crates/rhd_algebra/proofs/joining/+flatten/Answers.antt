use Rattle.std.proofs.Common.{◌≡◌, ◌+◌, ◌≤◌, ◌∷◌, ◌++◌, [], List, arith, sym, ap, subst, append_assoc, append-nil, ◌∙◌, Global}
use Rattle.std.specs.declared.rc.Rc.{Rc}
use Rattle.std.specs.Map.{keys_of}
use Rattle.rhd_hash.specs.declared.mixer.Seeds.{Seeds}
use Rattle.rhd_value.specs.Tree.{Bytes}
use Rattle.rhd_module.specs.Algebra.{over_all, flattened_with}
use Rattle.rhd_table.specs.Indexed.{IsClash}
use Rattle.rhd_table.specs.Pairs.{put_all}
use Rattle.rhd_module.specs.Tree.{ModuleTree, Subs, subs_of, depth}
use Rattle.rhd_table.proofs.Fills.{if_err}
use Rattle.rhd_module.proofs.JoinParts.{over_next, over_seeds, clash_over, depth_at}
use Rattle.rhd_algebra.proofs.joining.+flatten.Goals as goal

pub flatten-requires : goal.flatten-requires
flatten-requires t c =
    let x : Bytes × Rc ModuleTree Global = (c.in-Some.field-0-0.now, c.in-Some.child.now) in
    let front = c.loop-child.invariant.0 in
    let later = c.next.new.self in
    let source = c.into_iter-child-iterator.ensures.into_iter_gives in
    let all : c.iter_sub_modules-child-items.result ≡ front ++ x ∷ later =
    sym source ∙ c.loop-child.invariant.1 ∙ ap (λ (r : List (Bytes × Rc ModuleTree Global)). front ++ r) c.in-Some.ensures.steps in
    let subs : subs_of (front ++ x ∷ later) ≡ c.args.other.now.subs = ap subs_of (sym all) ∙ c.iter_sub_modules-child-items.ensures.subs in
    let P : ModuleTree × Subs → Type 0 = λ m. depth m.0.subs + 1 ≤ depth m.1 in
    let less = subst P (λ k. (sym c.deref.ensures k, subs k)) (depth_at {Z = Global} front later x) in
    (omega (arith, less), tt)

pub loop-child-preserved : goal.loop-child-preserved
loop-child-preserved t c =
    let x : Bytes × Rc ModuleTree Global = (c.in-Some.field-0-0.now, c.in-Some.child.now) in
    let front = c.loop-child.invariant.0 in
    let old = c.args.made.now in (
      front ++ x ∷ [],
      c.loop-child.invariant.1 ∙ ap (λ (r : List (Bytes × Rc ModuleTree Global)). front ++ r) c.in-Some.ensures.steps ∙ sym (append_assoc front (x ∷ []) c.next.new.self),
      c.in_ok-flatten.ensures.ok ∙ (λ k. flattened_with (c.deref.ensures k) (c.loop-child.invariant.2 k)) ∙ over_next {Z = Global} front x old,
    )

pub returns-in_err-flatten-clause-clash : goal.returns-in_err-flatten-clause-clash
returns-in_err-flatten-clause-clash t c =
    let x : Bytes × Rc ModuleTree Global = (c.in-Some.field-0-0.now, c.in-Some.child.now) in
    let front = c.loop-child.invariant.0 in
    let later = c.next.new.self in
    let old = c.args.made.now in
    let fault = c.in_err-flatten.field-0.0 in
    let entries = c.iter_sub_modules-child-items.result in
    let source = c.into_iter-child-iterator.ensures.into_iter_gives in
    let all : entries ≡ front ++ x ∷ later = sym source ∙ c.loop-child.invariant.1 ∙ ap (λ (r : List (Bytes × Rc ModuleTree Global)). front ++ r) c.in-Some.ensures.steps in
    let P : ModuleTree × ModuleTree → Type 0 = λ m. IsClash m.1.own.seeds (keys_of (flattened_with m.0 m.1).own.eager) fault in
    let at = subst P (λ k. (c.deref.ensures k, c.loop-child.invariant.2 k)) c.in_err-flatten.ensures.clash in
    let S : Seeds → Type 0 = λ s. IsClash s (keys_of (flattened_with x.1.value (record old { own = over_all (subs_of front) old.own })).own.eager) fault in
    let other = c.args.other.now in
    let R : Subs → Type 0 = λ ss. IsClash old.own.seeds (keys_of (put_all other.own.eager (over_all ss old.own).eager)) fault in
    if_err c.from_residual.result fault _ c.from_residual.ensures
    (subst R c.iter_sub_modules-child-items.ensures.subs (clash_over {Z = Global} old.own.seeds front later entries x other.own old fault all (subst S (over_seeds (subs_of front) old.own) at)))

pub returns-in_err-put_over-clause-clash : goal.returns-in_err-put_over-clause-clash
returns-in_err-put_over-clause-clash t c =
    let front = c.loop-child.invariant.0 in
    let old = c.args.made.now in
    let other = c.args.other.now in
    let fault = c.in_err-put_over.field-0.0 in
    let source = c.into_iter-child-iterator.ensures.into_iter_gives in
    let all : front ≡ c.iter_sub_modules-child-items.result =
    sym (append-nil front) ∙ sym (c.loop-child.invariant.1 ∙ ap (λ (r : List (Bytes × Rc ModuleTree Global)). front ++ r) c.in-None.ensures.steps.0) ∙ source in
    let subs : subs_of front ≡ other.subs = ap subs_of all ∙ c.iter_sub_modules-child-items.ensures.subs in
    let P : ModuleTree → Type 0 = λ m. IsClash m.own.seeds (keys_of (put_all other.own.eager m.own.eager)) fault in
    let at = subst P c.loop-child.invariant.2 c.in_err-put_over.ensures.clash in
    let S : Seeds × Subs → Type 0 = λ s. IsClash s.0 (keys_of (put_all other.own.eager (over_all s.1 old.own).eager)) fault in
    if_err c.from_residual-in_err-put_over.result fault _ c.from_residual-in_err-put_over.ensures (subst S (λ k. (over_seeds (subs_of front) old.own k, subs k)) at)
