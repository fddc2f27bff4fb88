use Rattle.std.proofs.Common.{◌≡◌, ◌+◌, Bool, List, [], ◌∷◌, ◌++◌, reverse, drop, refl, sym, ap, subst, ◌∙◌, arith}
use Rattle.std.proofs.Math.ListN.{drop_of_length-le}
use Rattle.std.proofs.lemmas.List.{drop_more}
use Rattle.std.specs.Fn.{CalledAt}
use Rattle.std.specs.List.{FoldsTo, flat_map}
use Rattle.rhd_value.specs.Tree.{Bytes}
use Rattle.rhd_func.specs.declared.access.ManifestId.{ManifestId}
use Rattle.rhd_manifest.specs.Entry.{Entry}
use Rattle.rhd_manifest.specs.Rank.{flattened, rank_of}
use Rattle.rhd_manifest.proofs.Folds.{folds_append}
use Rattle.rhd_manifest.proofs.Ranks.{rising, rising_own}
use Rattle.rhd_manifest.proofs.manifest.ModuleManifest.for_each_fn.Goals as goal

pub returns-then-not-flatten-clause-called : goal.returns-then-not-flatten-clause-called
returns-then-not-flatten-clause-called g c =
    let table = c.args.manifests.now in
    let m = c.args.self.now in
    let P : Bool → Type 0 = λ b. FoldsTo (λ p e q. CalledAt g.F.FnMut p e tt q) c.args.f.now (reverse (rank_of table m b)) c.for_each.new.f in
    let Q : List Entry → Type 0 = λ es. FoldsTo (λ p e q. CalledAt g.F.FnMut p e tt q) c.args.f.now es c.for_each.new.f in
    subst P (sym c.if-not-flatten.true) (subst Q (c.functions.ensures ∙ sym (rising_own (flattened table) m)) c.for_each.ensures.called)

pub loop-sub-init : goal.loop-sub-init
loop-sub-init g c = (
  c.for_each.ensures.callable,
  λ last h.
      let table = c.args.manifests.now in
      let m = c.args.self.now in
      let first = c.args.f.now in
      let next = c.for_each.new.f in
      let f : Bytes × ManifestId → List Entry = λ s. reverse (flattened table s.1) in
      let P : List Entry → Type 0 = λ es. FoldsTo (λ p e q. CalledAt g.F.FnMut p e tt q) first es last in
      let Q : List Entry → Type 0 = λ es. FoldsTo (λ p e q. CalledAt g.F.FnMut p e tt q) first es next in
      let S : List (Bytes × ManifestId) → Type 0 = λ xs. FoldsTo (λ p e q. CalledAt g.F.FnMut p e tt q) next (flat_map f xs) last in
      subst P (sym (rising (flattened table) m))
      (folds_append (λ p e q. CalledAt g.F.FnMut p e tt q) first next last m.entries (flat_map f m.subs) (subst Q c.functions.ensures c.for_each.ensures.called) (subst S c.sub_modules-sub-items.ensures h)),
)

pub loop-sub-preserved : goal.loop-sub-preserved
loop-sub-preserved g c = (
  c.for_each_flattened.ensures.callable,
  λ last h.
      let f : Bytes × ManifestId → List Entry = λ s. reverse (flattened c.args.manifests.now s.1) in
      let items = c.sub_modules-sub-items.result.now in
      let i = c.loop-sub.sub-index in
      let x = c.sub-item.result in
      let parts : flat_map f (drop i items) ≡ f x ++ flat_map f (drop (i + 1) items) = ap (flat_map f) (drop_more items i x c.loop-sub-test.true ∙ ap (λ y. y ∷ drop (i + 1) items) (sym c.sub-item.is)) in
      let P : List Entry → Type 0 = λ es. FoldsTo (λ p e q. CalledAt g.F.FnMut p e tt q) c.loop-sub.f es last in
      c.loop-sub.invariant.1 last (subst P (sym parts) (folds_append (λ p e q. CalledAt g.F.FnMut p e tt q) c.loop-sub.f c.for_each_flattened.new.f last (f x) (flat_map f (drop (i + 1) items)) c.for_each_flattened.ensures.called h)),
)

pub returns-clause-called : goal.returns-clause-called
returns-clause-called g c =
    let f : Bytes × ManifestId → List Entry = λ s. reverse (flattened c.args.manifests.now s.1) in
    let items = c.sub_modules-sub-items.result.now in
    let none : flat_map f (drop c.loop-sub.sub-index items) ≡ [] = ap (flat_map f) (drop_of_length-le items (omega (arith, c.loop-sub-test.false))) in
    let P : Bool → Type 0 = λ b. FoldsTo (λ p e q. CalledAt g.F.FnMut p e tt q) c.args.f.now (reverse (rank_of c.args.manifests.now c.args.self.now b)) c.loop-sub.f in
    let Q : List Entry → Type 0 = λ es. FoldsTo (λ p e q. CalledAt g.F.FnMut p e tt q) c.loop-sub.f es c.loop-sub.f in
    subst P (sym c.if-not-flatten.false) (c.loop-sub.invariant.1 c.loop-sub.f (subst Q (sym none) refl))
