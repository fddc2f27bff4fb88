use Rattle.std.proofs.Common.{Bool, List, ◌++◌, reverse, sym, ap, subst, ◌∙◌}
use Rattle.std.specs.Fn.{FnReturnsAt}
use Rattle.std.specs.List.{flat_map}
use Rattle.std.specs.Option.{option_copied}
use Rattle.rhd_value.specs.Tree.{Bytes}
use Rattle.rhd_func.specs.declared.access.ManifestId.{ManifestId}
use Rattle.rhd_manifest.specs.Entry.{Entry}
use Rattle.rhd_manifest.specs.Meets.{IsFirstThatMeets}
use Rattle.rhd_manifest.specs.Rank.{flattened, rank_of}
use Rattle.rhd_manifest.proofs.Folds.{meets_found, meets_past}
use Rattle.rhd_manifest.proofs.Ranks.{last_part, copied_is, no_more}
use Rattle.rhd_manifest.proofs.manifest.ModuleManifest.find_fn.Goals as goal

pub returns-then-is_some : goal.returns-then-is_some
returns-then-is_some g c =
    let f : Bytes × ManifestId → List Entry = λ s. flattened c.args.manifests.now s.1 in
    let R : Entry → Bool → Type 0 = λ e r. FnReturnsAt g.F.Fn c.args.f e r in
    let x = c.in-Some.sub.now in
    let front = c.next.new.self.iter.rest.now in
    let others = reverse c.args.self.now.entries in
    let o = option_copied c.find_flattened-found.result in
    let some = copied_is c.find_flattened-found.result c.is_some.result c.is_some.ensures ∙ c.if-is_some.true in
    let Q : List Entry → Type 0 = λ es. IsFirstThatMeets R es o in
    let P : Bool → Type 0 = λ b. IsFirstThatMeets R (rank_of c.args.manifests.now c.args.self.now b) o in
    subst P (sym c.if-not-flatten.false)
    (c.loop-sub.invariant o (subst Q (sym (last_part f c.loop-sub.sub-iterator.iter.rest.now front x others c.in-Some.ensures.steps)) (meets_found R (f x) (flat_map f (reverse front) ++ others) o some c.find_flattened-found.ensures)))

pub loop-sub-preserved : goal.loop-sub-preserved
loop-sub-preserved g c = λ found h.
    let f : Bytes × ManifestId → List Entry = λ s. flattened c.args.manifests.now s.1 in
    let R : Entry → Bool → Type 0 = λ e r. FnReturnsAt g.F.Fn c.args.f e r in
    let x = c.in-Some.sub.now in
    let front = c.next.new.self.iter.rest.now in
    let others = reverse c.args.self.now.entries in
    let o = option_copied c.find_flattened-found.result in
    let none = copied_is c.find_flattened-found.result c.is_some.result c.is_some.ensures ∙ c.if-is_some.false in
    let Q : List Entry → Type 0 = λ es. IsFirstThatMeets R es found in
    c.loop-sub.invariant found
    (subst Q (sym (last_part f c.loop-sub.sub-iterator.iter.rest.now front x others c.in-Some.ensures.steps)) (meets_past R (f x) (flat_map f (reverse front) ++ others) o found none c.find_flattened-found.ensures h))

pub returns : goal.returns
returns g c =
    let f : Bytes × ManifestId → List Entry = λ s. flattened c.args.manifests.now s.1 in
    let R : Entry → Bool → Type 0 = λ e r. FnReturnsAt g.F.Fn c.args.f e r in
    let o = option_copied c.find_last_that-2.result in
    let Q : List Entry → Type 0 = λ es. IsFirstThatMeets R es o in
    let P : Bool → Type 0 = λ b. IsFirstThatMeets R (rank_of c.args.manifests.now c.args.self.now b) o in
    subst P (sym c.if-not-flatten.false)
    (c.loop-sub.invariant o (subst Q (sym (no_more f c.loop-sub.sub-iterator.iter.rest.now (reverse c.args.self.now.entries) c.in-None.ensures.steps.0 ∙ ap reverse (sym c.functions-2.ensures))) c.find_last_that-2.ensures))
