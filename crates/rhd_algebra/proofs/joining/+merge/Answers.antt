use Rattle.std.proofs.Common.{◌≡◌, ◌+◌, ◌≤◌, ◌∷◌, ◌++◌, [], List, arith, rules, refl, sym, ap, subst, append_assoc, append-nil, ◌∙◌, Global}
use Rattle.std.specs.declared.rc.Rc.{Rc}
use Rattle.std.specs.List.{AllByRecursion, Contains}
use Rattle.std.proofs.lemmas.List.Elements.{Contains-append_right}
use Rattle.rhd_hash.specs.declared.mixer.Seeds.{Seeds}
use Rattle.rhd_value.specs.Tree.{Bytes}
use Rattle.rhd_module.specs.Algebra.{merged_with, merged_all, rebuilt, HasOwnTable, SomeClash}
use Rattle.rhd_module.specs.Contents.{with_sub}
use Rattle.rhd_module.specs.Tree.{ModuleTree, Subs, subs_of, depth, empty_module}
use Rattle.rhd_table.proofs.Fills.{if_err}
use Rattle.rhd_module.proofs.JoinParts.{clash_first, clash_in, merged_more, rebuilt_more, rebuilt_at, depth_at}
use Rattle.rhd_algebra.proofs.joining.+merge.Goals as goal

pub merge-requires : goal.merge-requires
merge-requires g t c κs within =
    let x : Bytes × Rc ModuleTree Global = (c.in-Some.name.now, c.in-Some.child.now) in
    let front = c.loop-name.invariant.0 in
    let later = c.next.new.self in
    let entries = c.iter_sub_modules-name-items.result in
    let source = c.into_iter-name-iterator.ensures.into_iter_gives in
    let all : entries ≡ front ++ x ∷ later = sym source ∙ c.loop-name.invariant.1 ∙ ap (λ (r : List (Bytes × Rc ModuleTree Global)). front ++ r) c.in-Some.ensures.steps in
    let subs : subs_of (front ++ x ∷ later) ≡ c.args.other.now.subs = ap subs_of (sym all) ∙ c.iter_sub_modules-name-items.ensures.subs in
    let P : ModuleTree × Subs → Type 0 = λ m. depth m.0.subs + 1 ≤ depth m.1 in
    let less = subst P (λ k. (sym c.deref.ensures k, subs k)) (depth_at {Z = Global} front later x) in
    (omega (arith, less), (search rules, c.requires))

pub returns-in_err-merge_own-clause-clash : goal.returns-in_err-merge_own-clause-clash
returns-in_err-merge_own-clause-clash g t c =
    λ tells h.
    let other = c.args.other.now in
    let old = c.args.made.now in
    let fault = c.in_err-merge_own.field-0.0 in
    if_err c.from_residual.result fault _ c.from_residual.ensures (clash_first (merged_with tells other old) (rebuilt tells old.own.seeds other.subs) fault (c.in_err-merge_own.ensures.clash tells h))

pub loop-name-init : goal.loop-name-init
loop-name-init g t c = ([], refl, (λ tells h. refl), (λ tells h. tt))

pub returns-in_err-merge-clause-clash : goal.returns-in_err-merge-clause-clash
returns-in_err-merge-clause-clash g t c =
    λ tells h.
    let x : Bytes × Rc ModuleTree Global = (c.in-Some.name.now, c.in-Some.child.now) in
    let front = c.loop-name.invariant.0 in
    let later = c.next.new.self in
    let other = c.args.other.now in
    let old = c.args.made.now in
    let s = old.own.seeds in
    let fault = c.in_err-merge.field-0.0 in
    let entries = c.iter_sub_modules-name-items.result in
    let source = c.into_iter-name-iterator.ensures.into_iter_gives in
    let all : entries ≡ front ++ x ∷ later = sym source ∙ c.loop-name.invariant.1 ∙ ap (λ (r : List (Bytes × Rc ModuleTree Global)). front ++ r) c.in-Some.ensures.steps in
    let subs : subs_of entries ≡ other.subs = c.iter_sub_modules-name-items.ensures.subs in
    let seeds : c.seeds.result ≡ s = c.seeds.ensures ∙ ap (λ (m : ModuleTree). m.own.seeds) (c.loop-name.invariant.2 tells h) ∙ ap (λ (m : ModuleTree). m.own.seeds) (c.in_ok-merge_own.ensures.ok tells h) in
    let new : c.in_ok-rebuilt.rebuilt ≡ empty_module s = c.in_ok-rebuilt.ensures ∙ ap empty_module seeds in
    let P : ModuleTree × ModuleTree → Type 0 = λ m. SomeClash (merged_all tells m.0 m.1) fault in
    let at = subst P (λ k. (c.deref.ensures k, new k)) (c.in_err-merge.ensures.clash tells h) in
    let there : (u : ModuleTree) → Contains (merged_all tells x.1.value (empty_module s)) u → Contains (merged_all tells other old) u =
    λ u hu.
    let E : List (Bytes × Rc ModuleTree Global) → Type 0 = λ es. Contains (rebuilt tells s (subs_of es)) u in
    let S : Subs → Type 0 = λ ss. Contains (rebuilt tells s ss) u in
    Contains-append_right (merged_with tells other old ∷ []) (rebuilt tells s other.subs) u (subst S subs (subst E (sym all) (rebuilt_at {Z = Global} tells s front later x u hu))) in
    if_err c.from_residual-in_err-merge.result fault _ c.from_residual-in_err-merge.ensures (clash_in (merged_all tells x.1.value (empty_module s)) (merged_all tells other old) fault there at)

pub loop-name-preserved : goal.loop-name-preserved
loop-name-preserved g t c =
    let x : Bytes × Rc ModuleTree Global = (c.in-Some.name.now, c.in-Some.child.now) in
    let front = c.loop-name.invariant.0 in
    let first = c.merge_own.new.made in
    let s = first.own.seeds in
    let v = c.in_ok-new.field-0.value in (
      front ++ x ∷ [],
      c.loop-name.invariant.1 ∙ ap (λ (r : List (Bytes × Rc ModuleTree Global)). front ++ r) c.in-Some.ensures.steps ∙ sym (append_assoc front (x ∷ []) c.next.new.self),
      λ tells h.
          let is = c.loop-name.invariant.2 tells h in
          let seeds : c.seeds.result ≡ s = c.seeds.ensures ∙ ap (λ (m : ModuleTree). m.own.seeds) is in
          let new : c.in_ok-rebuilt.rebuilt ≡ empty_module s = c.in_ok-rebuilt.ensures ∙ ap empty_module seeds in
          let made : v ≡ merged_with tells x.1.value (empty_module s) = c.in_ok-new.ensures.ok ∙ c.in_ok-merge.ensures.ok tells h ∙ (λ k. merged_with tells (c.deref.ensures k) (new k)) in
          let puts = c.in_ok-set_sub_module.ensures.ok ∙ (λ k. with_sub (c.in_ok-dup.ensures k) v (is k)) in
          puts ∙ (λ k. record { own = record first.own { indexed = (sym puts k).own.indexed }; subs = merged_more {Z = Global} tells s front x v first.subs made k }),
      λ tells h.
          let is = c.loop-name.invariant.2 tells h in
          let seeds : c.seeds.result ≡ s = c.seeds.ensures ∙ ap (λ (m : ModuleTree). m.own.seeds) is in
          let new : c.in_ok-rebuilt.rebuilt ≡ empty_module s = c.in_ok-rebuilt.ensures ∙ ap empty_module seeds in
          let P : ModuleTree × ModuleTree → Type 0 = λ m. AllByRecursion HasOwnTable (merged_all tells m.0 m.1) in
          rebuilt_more {Z = Global} HasOwnTable tells s front x (c.loop-name.invariant.3 tells h) (subst P (λ k. (c.deref.ensures k, new k)) (c.in_ok-merge.ensures.tables tells h)),
    )

pub returns-clause-tables : goal.returns-clause-tables
returns-clause-tables g t c =
    λ tells h.
    let front = c.loop-name.invariant.0 in
    let other = c.args.other.now in
    let source = c.into_iter-name-iterator.ensures.into_iter_gives in
    let all : front ≡ c.iter_sub_modules-name-items.result =
    sym (append-nil front) ∙ sym (c.loop-name.invariant.1 ∙ ap (λ (r : List (Bytes × Rc ModuleTree Global)). front ++ r) c.in-None.ensures.steps.0) ∙ source in
    let subs : subs_of front ≡ other.subs = ap subs_of all ∙ c.iter_sub_modules-name-items.ensures.subs in
    let is = c.in_ok-merge_own.ensures.ok tells h in
    let P : Seeds × Subs → Type 0 = λ q. AllByRecursion HasOwnTable (rebuilt tells q.0 q.1) in
    (subst HasOwnTable is c.in_ok-merge_own.ensures.table, subst P (λ k. ((is k).own.seeds, subs k)) (c.loop-name.invariant.3 tells h))
