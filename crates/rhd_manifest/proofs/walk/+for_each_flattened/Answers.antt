use Rattle.std.proofs.Common.{◌≡◌, ◌<◌, ◌+◌, List, ◌∷◌, ◌++◌, reverse, drop, sym, ap, subst, ◌∙◌, arith, rules}
use Rattle.std.proofs.lemmas.List.{drop_more}
use Rattle.std.specs.Fn.{CalledAt}
use Rattle.std.specs.List.{FoldsTo, flat_map, AllByRecursion}
use Rattle.rhd_value.specs.Tree.{Bytes}
use Rattle.rhd_func.specs.declared.access.ManifestId.{ManifestId}
use Rattle.rhd_manifest.specs.Entry.{Entry}
use Rattle.rhd_manifest.specs.Rank.{flattened}
use Rattle.rhd_manifest.proofs.Folds.{folds_append}
use Rattle.rhd_manifest.proofs.Ranks.{rising_held, lower_than, all_index}
use Rattle.rhd_manifest.proofs.walk.+for_each_flattened.Goals as goal

pub loop-sub-init : goal.loop-sub-init
loop-sub-init g t c = (
  c.for_each.ensures.callable,
  λ last h.
      let table = c.args.manifests.now in
      let m = c.in-Some.manifest.now in
      let first = c.args.f.now in
      let next = c.for_each.new.f in
      let f : Bytes × ManifestId → List Entry = λ s. reverse (flattened table s.1) in
      let P : List Entry → Type 0 = λ es. FoldsTo (λ p e q. CalledAt g.F.FnMut p e tt q) first es last in
      let Q : List Entry → Type 0 = λ es. FoldsTo (λ p e q. CalledAt g.F.FnMut p e tt q) first es next in
      let S : List (Bytes × ManifestId) → Type 0 = λ xs. FoldsTo (λ p e q. CalledAt g.F.FnMut p e tt q) next (flat_map f xs) last in
      subst P (sym (rising_held table c.in-Some.ensures.lower c.args.id m c.in-Some.ensures.manifest))
      (folds_append (λ p e q. CalledAt g.F.FnMut p e tt q) first next last m.entries (flat_map f m.subs) (subst Q c.functions.ensures c.for_each.ensures.called) (subst S c.sub_modules-sub-items.ensures h)),
)

pub for_each_flattened-requires : goal.for_each_flattened-requires
for_each_flattened-requires g t c κs within =
    let table = c.args.manifests.now in
    let m = c.in-Some.manifest.now in
    let All : List (Bytes × ManifestId) → Type 0 = λ xs. AllByRecursion (λ s. s.1.0 < c.args.id.0) xs in
    let here = all_index (λ s. s.1.0 < c.args.id.0) c.sub_modules-sub-items.result.now c.loop-sub.sub-index c.sub-item.result
    (subst All (sym c.sub_modules-sub-items.ensures) (lower_than table c.in-Some.ensures.lower c.args.id m c.in-Some.ensures.manifest)) c.loop-sub-test.true in
    let Below : Bytes × ManifestId → Type 0 = λ s. s.1.0 < c.args.id.0 in
    let less = subst Below (sym c.sub-item.is) here in
    (omega (arith, less), (search rules, c.loop-sub.invariant.0))

pub loop-sub-preserved : goal.loop-sub-preserved
loop-sub-preserved g t c = (
  c.for_each_flattened.ensures.callable,
  λ last h.
      let f : Bytes × ManifestId → List Entry = λ s. reverse (flattened c.args.manifests.now s.1) in
      let items = c.sub_modules-sub-items.result.now in
      let i = c.loop-sub.sub-index in
      let x = c.sub-item.result in
      let parts : flat_map f (drop i items) ≡ f x ++ flat_map f (drop (i + 1) items) = ap (flat_map f) (drop_more items i x c.loop-sub-test.true ∙ ap (λ y. y ∷ drop (i + 1) items) (sym c.sub-item.is)) in
      let P : List Entry → Type 0 = λ es. FoldsTo (λ p e q. CalledAt g.F.FnMut p e tt q) c.loop-sub.f es last in
      c.loop-sub.invariant.1 last (subst P (sym parts) (folds_append (λ p e q. CalledAt g.F.FnMut p e tt q) c.loop-sub.f c.for_each_flattened.new.f last (f x) (flat_map f (drop (i + 1) items)) c.for_each_flattened.ensures.called h)),
)
