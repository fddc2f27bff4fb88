use Rattle.std.proofs.Common.{◌≡◌, ◌+◌, ◌≤◌, arith, List, ◌++◌, ◌∷◌, [], ◌⊎◌, true, false, sym, ap, subst, ◌∙◌, append_assoc, Global}
use Rattle.std.specs.declared.rc.Rc.{Rc}
use Rattle.std.specs.Ordering.{nat_cmp}
use Rattle.std.specs.Cmp.Lexicographic.{slice_cmp}
use Rattle.std.specs.List.{AllByRecursion, Contains}
use Rattle.std.specs.List.Sorted.{IsStrictlySortedBy}
use Rattle.std.specs.Map.{keys_of}
use Rattle.rhd_value.specs.Tree.{Bytes}
use Rattle.rhd_module.specs.Below.{lists_any, some_in}
use Rattle.rhd_module.specs.Index.{indexed}
use Rattle.rhd_table.specs.Indexed.{NoneClash, IsClash}
use Rattle.rhd_module.specs.Lazy.{with_registered, registered_subs, touched_below, HasApartTable, HasApartTree, RegisterClash}
use Rattle.rhd_module.specs.Manifests.{registered_pairs}
use Rattle.rhd_module.specs.Tree.{ModuleTree, Subs, subs_of, depth}
use Rattle.rhd_module.specs.Walk.{tree}
use Rattle.rhd_module.proofs.LazyParts.{below_rest, follows_more, all_more, none_touched, some_touched, after_same, after_listed, tree_listed, touched_at, below_touched, clash_more, renewed_clash}
use Rattle.rhd_table.proofs.Fills.{if_err}
use Rattle.rhd_module.proofs.JoinParts.{depth_at}
use Rattle.rhd_algebra.proofs.lazy.+registered_subs.Goals as goal

pub registered_subs-requires : goal.registered_subs-requires
registered_subs-requires t c =
    let x : Bytes × Rc ModuleTree Global = (c.in-Some.name.now, c.in-Some.child.now) in
    let done = c.loop-name.invariant.0 in
    let split = c.loop-name.invariant.1 ∙ ap (λ u. u ++ done) c.in-Some.ensures.steps ∙ append_assoc c.next.new.self.iter (x ∷ []) done in
    let all = sym (ap (λ r. r.iter) c.into_iter-name-iterator.ensures.into_iter_gives ∙ c.rev-name-items.ensures.source) ∙ split in
    let subs : subs_of (c.next.new.self.iter ++ x ∷ done) ≡ c.args.of.now.subs = ap subs_of (sym all) ∙ c.iter_sub_modules.ensures.subs in
    let P : ModuleTree × Subs → Type 0 = λ m. depth m.0.subs + 1 ≤ depth m.1 in
    let less = subst P (λ k. (sym c.deref-in-loop-name.ensures k, subs k)) (depth_at {Z = Global} c.next.new.self.iter done x) in
    (omega (arith, less), tt)

pub loop-name-preserved-then-not-has_lazy_functions : goal.loop-name-preserved-then-not-has_lazy_functions
loop-name-preserved-then-not-has_lazy_functions t c =
    let x : Bytes × Rc ModuleTree Global = (c.in-Some.name.now, c.in-Some.child.now) in
    let done = c.loop-name.invariant.0 in
    let split = c.loop-name.invariant.1 ∙ ap (λ u. u ++ done) c.in-Some.ensures.steps ∙ append_assoc c.next.new.self.iter (x ∷ []) done in
    let all = sym (ap (λ r. r.iter) c.into_iter-name-iterator.ensures.into_iter_gives ∙ c.rev-name-items.ensures.source) ∙ split in
    let P : List (Bytes × Rc ModuleTree Global) → Type 0 = λ es. IsStrictlySortedBy (slice_cmp nat_cmp) (keys_of es) in
    let below = below_rest c.next.new.self.iter done x (subst P all c.iter_sub_modules.ensures.ordered) in
    let none : some_in lists_any x.1.value ≡ false = ap (some_in lists_any) (sym c.deref.ensures) ∙ sym c.has_lazy_functions.ensures ∙ c.if-not-has_lazy_functions.true in
    let same = c.in_ok-clone.ensures.cases ∙ after_same x.1.value none in (
      x ∷ done,
      split,
      follows_more c.loop-name.after.entries c.put_child.new.after.entries done x.0 x.1 c.in_ok-clone.field-0 c.loop-name.invariant.2 below same c.in_ok-put_child.ensures,
      all_more HasApartTable done x (none_touched HasApartTable x.1.value none) c.loop-name.invariant.3,
      all_more HasApartTree done x (none_touched HasApartTree x.1.value none) c.loop-name.invariant.4,
    )

pub loop-name-preserved : goal.loop-name-preserved
loop-name-preserved t c =
    let x : Bytes × Rc ModuleTree Global = (c.in-Some.name.now, c.in-Some.child.now) in
    let m : ModuleTree = x.1.value in
    let done = c.loop-name.invariant.0 in
    let split = c.loop-name.invariant.1 ∙ ap (λ u. u ++ done) c.in-Some.ensures.steps ∙ append_assoc c.next.new.self.iter (x ∷ []) done in
    let all = sym (ap (λ r. r.iter) c.into_iter-name-iterator.ensures.into_iter_gives ∙ c.rev-name-items.ensures.source) ∙ split in
    let P : List (Bytes × Rc ModuleTree Global) → Type 0 = λ es. IsStrictlySortedBy (slice_cmp nat_cmp) (keys_of es) in
    let below = below_rest c.next.new.self.iter done x (subst P all c.iter_sub_modules.ensures.ordered) in
    let some : some_in lists_any m ≡ true = ap (some_in lists_any) (sym c.deref.ensures) ∙ sym c.has_lazy_functions.ensures ∙ c.if-not-has_lazy_functions.false in
    let lower = c.deref-in-loop-name.ensures in
    let at = c.deref-in-loop-name-2.ensures in
    let subs : subs_of c.in_ok-below.below.entries ≡ registered_subs m.subs = c.in_ok-below.ensures.ok ∙ ap (λ (n : ModuleTree). registered_subs n.subs) lower in
    let new = c.in_ok-made.ensures.ok ∙ (λ k. indexed (with_registered (at k) (subs k))) ∙ after_listed m some in
    let T : ModuleTree × Subs → Type 0 = λ n. NoneClash n.0.own.seeds (keys_of (tree (with_registered n.0 n.1))) in
    let R : ModuleTree → Type 0 = λ n. NoneClash m.own.seeds (keys_of (tree n)) in
    let U : ModuleTree → Type 0 = λ n. AllByRecursion HasApartTable (touched_below n.subs) in
    let V : ModuleTree → Type 0 = λ n. AllByRecursion HasApartTree (touched_below n.subs) in (
      x ∷ done,
      split,
      follows_more c.loop-name.after.entries c.put_child-in-loop-name.new.after.entries done x.0 x.1 c.in_ok-made.made c.loop-name.invariant.2 below new c.in_ok-put_child-2.ensures,
      all_more HasApartTable done x (some_touched HasApartTable m some (subst HasApartTable at c.in_ok-made.ensures.table) (subst U lower c.in_ok-below.ensures.tables)) c.loop-name.invariant.3,
      all_more HasApartTree done x (some_touched HasApartTree m some (subst R (tree_listed m some) (subst T (λ k. (at k, subs k)) c.in_ok-made.ensures.tree)) (subst V lower c.in_ok-below.ensures.trees)) c.loop-name.invariant.4,
    )

pub returns-in_err-below-clause-clash : goal.returns-in_err-below-clause-clash
returns-in_err-below-clause-clash t c =
    let x : Bytes × Rc ModuleTree Global = (c.in-Some.name.now, c.in-Some.child.now) in
    let m : ModuleTree = x.1.value in
    let done = c.loop-name.invariant.0 in
    let split = c.loop-name.invariant.1 ∙ ap (λ u. u ++ done) c.in-Some.ensures.steps ∙ append_assoc c.next.new.self.iter (x ∷ []) done in
    let all = sym (ap (λ r. r.iter) c.into_iter-name-iterator.ensures.into_iter_gives ∙ c.rev-name-items.ensures.source) ∙ split in
    let some : some_in lists_any m ≡ true = ap (some_in lists_any) (sym c.deref.ensures) ∙ sym c.has_lazy_functions.ensures ∙ c.if-not-has_lazy_functions.false in
    let fault = c.in_err-below.field-0.0 in
    let whole : touched_below (subs_of (c.next.new.self.iter ++ x ∷ done)) ≡ touched_below c.args.of.now.subs =
    ap (λ (es : List (Bytes × Rc ModuleTree Global)). touched_below (subs_of es)) (sym all) ∙ ap touched_below c.iter_sub_modules.ensures.subs in
    let here : (n : ModuleTree) → Contains (touched_below m.subs) n → Contains (touched_below c.args.of.now.subs) n = λ n h. subst (λ (ts : List ModuleTree). Contains ts n) whole (touched_at c.next.new.self.iter done x n (below_touched m n some h)) in
    let R : ModuleTree → Type 0 = λ n. RegisterClash (touched_below n.subs) (touched_below n.subs) fault in
    if_err c.from_residual-in_err-below.result fault _ c.from_residual-in_err-below.ensures
    (clash_more (touched_below m.subs) (touched_below m.subs) (touched_below c.args.of.now.subs) (touched_below c.args.of.now.subs) fault here here (subst R c.deref-in-loop-name.ensures c.in_err-below.ensures.clash))

pub returns-in_err-made-clause-clash : goal.returns-in_err-made-clause-clash
returns-in_err-made-clause-clash t c =
    let x : Bytes × Rc ModuleTree Global = (c.in-Some.name.now, c.in-Some.child.now) in
    let m : ModuleTree = x.1.value in
    let done = c.loop-name.invariant.0 in
    let split = c.loop-name.invariant.1 ∙ ap (λ u. u ++ done) c.in-Some.ensures.steps ∙ append_assoc c.next.new.self.iter (x ∷ []) done in
    let all = sym (ap (λ r. r.iter) c.into_iter-name-iterator.ensures.into_iter_gives ∙ c.rev-name-items.ensures.source) ∙ split in
    let some : some_in lists_any m ≡ true = ap (some_in lists_any) (sym c.deref.ensures) ∙ sym c.has_lazy_functions.ensures ∙ c.if-not-has_lazy_functions.false in
    let fault = c.in_err-made.field-0.0 in
    let subs : subs_of c.in_ok-below.below.entries ≡ registered_subs m.subs = c.in_ok-below.ensures.ok ∙ ap (λ (n : ModuleTree). registered_subs n.subs) c.deref-in-loop-name.ensures in
    let whole : touched_below (subs_of (c.next.new.self.iter ++ x ∷ done)) ≡ touched_below c.args.of.now.subs =
    ap (λ (es : List (Bytes × Rc ModuleTree Global)). touched_below (subs_of es)) (sym all) ∙ ap touched_below c.iter_sub_modules.ensures.subs in
    let R : ModuleTree → Type 0 = λ n. IsClash n.own.seeds (keys_of (registered_pairs n.own)) fault ⊎ IsClash n.own.seeds (keys_of (tree (with_registered n (subs_of c.in_ok-below.below.entries)))) fault in
    if_err c.from_residual-in_err-made.result fault _ c.from_residual-in_err-made.ensures
    (renewed_clash m (subs_of c.in_ok-below.below.entries) (touched_below c.args.of.now.subs) fault subs some
    (λ n h. subst (λ (ts : List ModuleTree). Contains ts n) whole (touched_at c.next.new.self.iter done x n h)) (subst R c.deref-in-loop-name-2.ensures c.in_err-made.ensures.clash))
