use Rattle.std.proofs.Common.{◌≡◌, ◌<◌, Bool, List, ◌++◌, reverse, Option, sym, ap, subst, ◌∙◌, arith, rules}
use Rattle.std.specs.Fn.{FnReturnsAt}
use Rattle.std.specs.List.{flat_map, AllByRecursion}
use Rattle.std.specs.Option.{option_copied}
use Rattle.rhd_value.specs.Tree.{Bytes}
use Rattle.rhd_func.specs.declared.access.ManifestId.{ManifestId}
use Rattle.rhd_manifest.specs.Entry.{Entry}
use Rattle.rhd_manifest.specs.Meets.{IsFirstThatMeets}
use Rattle.rhd_manifest.specs.Rank.{flattened}
use Rattle.rhd_manifest.proofs.Folds.{meets_found, meets_past}
use Rattle.rhd_manifest.proofs.Ranks.{of_held, lower_than, last_part, all_front, all_end, copied_is, no_more}
use Rattle.rhd_manifest.proofs.walk.+find_flattened.Goals as goal

pub loop-sub-init : goal.loop-sub-init
loop-sub-init g t c =
    let table = c.args.manifests.now in
    let m = c.in-Some.manifest.now in
    let R : Entry → Bool → Type 0 = λ e r. FnReturnsAt g.F.Fn c.args.f.now e r in
    let start : c.into_iter-sub-iterator.result.iter.rest.now ≡ m.subs = search rules in
    let P : List (Bytes × ManifestId) → Type 0 =
    λ xs. AllByRecursion (λ s. s.1.0 < c.args.id.0) xs × ((found : Option Entry) → IsFirstThatMeets R (flat_map (λ s. flattened table s.1) (reverse xs) ++ reverse m.entries) found → IsFirstThatMeets R (flattened table c.args.id) found) in
    subst P (sym start) (
      lower_than table c.in-Some.ensures.lower c.args.id m c.in-Some.ensures.manifest,
      λ found h. let Q : List Entry → Type 0 = λ es. IsFirstThatMeets R es found in subst Q (sym (of_held table c.in-Some.ensures.lower c.args.id m c.in-Some.ensures.manifest)) h,
    )

pub find_flattened-found-requires : goal.find_flattened-found-requires
find_flattened-found-requires g t c κs within =
    let less = all_end (λ s. s.1.0 < c.args.id.0) c.loop-sub.sub-iterator.iter.rest.now c.next.new.self.iter.rest.now c.in-Some-sub.sub.now c.in-Some-sub.ensures.steps c.loop-sub.invariant.0 in
    (omega (arith, less), (search rules, c.requires))

pub returns-then-is_some : goal.returns-then-is_some
returns-then-is_some g t c =
    let f : Bytes × ManifestId → List Entry = λ s. flattened c.args.manifests.now s.1 in
    let R : Entry → Bool → Type 0 = λ e r. FnReturnsAt g.F.Fn c.args.f.now e r in
    let x = c.in-Some-sub.sub.now in
    let front = c.next.new.self.iter.rest.now in
    let others = reverse c.in-Some.manifest.now.entries in
    let o = option_copied c.find_flattened-found.result in
    let some = copied_is c.find_flattened-found.result c.is_some.result c.is_some.ensures ∙ c.if-is_some.true in
    let Q : List Entry → Type 0 = λ es. IsFirstThatMeets R es o in
    c.loop-sub.invariant.1 o (subst Q (sym (last_part f c.loop-sub.sub-iterator.iter.rest.now front x others c.in-Some-sub.ensures.steps)) (meets_found R (f x) (flat_map f (reverse front) ++ others) o some c.find_flattened-found.ensures))

pub loop-sub-preserved : goal.loop-sub-preserved
loop-sub-preserved g t c =
    let f : Bytes × ManifestId → List Entry = λ s. flattened c.args.manifests.now s.1 in
    let R : Entry → Bool → Type 0 = λ e r. FnReturnsAt g.F.Fn c.args.f.now e r in
    let x = c.in-Some-sub.sub.now in
    let front = c.next.new.self.iter.rest.now in
    let others = reverse c.in-Some.manifest.now.entries in
    let o = option_copied c.find_flattened-found.result in
    let none = copied_is c.find_flattened-found.result c.is_some.result c.is_some.ensures ∙ c.if-is_some.false in (
      all_front (λ s. s.1.0 < c.args.id.0) c.loop-sub.sub-iterator.iter.rest.now front x c.in-Some-sub.ensures.steps c.loop-sub.invariant.0,
      λ found h.
          let Q : List Entry → Type 0 = λ es. IsFirstThatMeets R es found in
          c.loop-sub.invariant.1 found
          (subst Q (sym (last_part f c.loop-sub.sub-iterator.iter.rest.now front x others c.in-Some-sub.ensures.steps)) (meets_past R (f x) (flat_map f (reverse front) ++ others) o found none c.find_flattened-found.ensures h)),
    )

pub returns : goal.returns
returns g t c =
    let f : Bytes × ManifestId → List Entry = λ s. flattened c.args.manifests.now s.1 in
    let R : Entry → Bool → Type 0 = λ e r. FnReturnsAt g.F.Fn c.args.f.now e r in
    let Q : List Entry → Type 0 = λ es. IsFirstThatMeets R es (option_copied c.find_last_that.result) in
    c.loop-sub.invariant.1 (option_copied c.find_last_that.result)
    (subst Q (sym (no_more f c.loop-sub.sub-iterator.iter.rest.now (reverse c.in-Some.manifest.now.entries) c.in-None.ensures.steps.0 ∙ ap reverse (sym c.functions.ensures))) c.find_last_that.ensures)
