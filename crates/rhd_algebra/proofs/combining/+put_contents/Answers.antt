use Rattle.std.proofs.Common.{◌<◌, List, ◌∷◌, ◌++◌, [], take, take_all, sym, ap, subst, append-nil, ◌∙◌, arith}
use Rattle.std.specs.List.{flat_map, AllByRecursion}
use Rattle.std.proofs.lemmas.List.{take_more}
use Rattle.std.proofs.lemmas.Grind.{flat_map-append}
use Rattle.rhd_value.specs.Tree.{Bytes, Tree}
use Rattle.rhd_func.specs.declared.access.ManifestId.{ManifestId}
use Rattle.rhd_manifest.specs.Rank.{all_vars, all_types}
use Rattle.rhd_manifest.proofs.Ranks.{lower_than, all_index, over_walk-is}
use Rattle.rhd_module.specs.Manifests.{put_vars, put_types}
use Rattle.rhd_module.proofs.Combined.{vars_append, types_append}
use Rattle.rhd_algebra.proofs.combining.+put_contents.Goals as goal

pub put_contents-requires : goal.put_contents-requires
put_contents-requires t c =
    let table = c.args.manifests.now in
    let m = c.in-Some.manifest.now in
    let All : List (Bytes × ManifestId) → Type 0 = λ xs. AllByRecursion (λ s. s.1.0 < c.args.id.0) xs in
    let here = all_index (λ s. s.1.0 < c.args.id.0) c.sub_modules-sub-items.result.now c.loop-sub.sub-index c.sub-item.result
    (subst All (sym c.sub_modules-sub-items.ensures) (lower_than table c.in-Some.ensures.lower c.args.id m c.in-Some.ensures.manifest)) c.loop-sub-test.true in
    let Below : Bytes × ManifestId → Type 0 = λ s. s.1.0 < c.args.id.0 in
    let less = subst Below (sym c.sub-item.is) here in
    (omega (arith, less), tt)

pub loop-sub-preserved : goal.loop-sub-preserved
loop-sub-preserved t c =
    let table = c.args.manifests.now in
    let xs = c.sub_modules-sub-items.result.now in
    let i = c.loop-sub.sub-index in
    let x = c.sub-item.result in
    let next = take_more xs i x c.loop-sub-test.true ∙ ap (λ y. take i xs ++ y ∷ []) (sym c.sub-item.is) in
    let f : Bytes × ManifestId → List (Bytes × Tree) = λ s. all_vars table s.1 in
    let g : Bytes × ManifestId → List (Bytes × Bytes) = λ s. all_types table s.1 in
    let vars = c.put_vars.new.vars in
    let types = c.put_types.new.types in (
      c.in_ok-put_contents.ensures.vars ∙ ap (put_vars (f x)) c.loop-sub.invariant.0
          ∙ sym (ap (λ ys. put_vars ys vars) (ap (flat_map f) next ∙ flat_map-append f (take i xs) (x ∷ []) ∙ ap (λ ys. flat_map f (take i xs) ++ ys) (append-nil (f x))) ∙ vars_append (flat_map f (take i xs)) (f x) vars),
      c.in_ok-put_contents.ensures.types ∙ ap (put_types (g x)) c.loop-sub.invariant.1
          ∙ sym (ap (λ ys. put_types ys types) (ap (flat_map g) next ∙ flat_map-append g (take i xs) (x ∷ []) ∙ ap (λ ys. flat_map g (take i xs) ++ ys) (append-nil (g x))) ∙ types_append (flat_map g (take i xs)) (g x) types),
    )

pub returns-clause-vars : goal.returns-clause-vars
returns-clause-vars t c =
    let table = c.args.manifests.now in
    let m = c.in-Some.manifest.now in
    let f : Bytes × ManifestId → List (Bytes × Tree) = λ s. all_vars table s.1 in
    let old = c.args.vars.now in
    c.loop-sub.invariant.0
    ∙ (λ k. put_vars (flat_map f ((take_all c.loop-sub.sub-index c.sub_modules-sub-items.result.now c.loop-sub-test.false ∙ c.sub_modules-sub-items.ensures) k)) ((c.in_ok-put_vars.ensures ∙ ap (λ vs. put_vars vs old) c.vars.ensures) k))
    ∙ sym (ap (λ vs. put_vars vs old) (over_walk-is (λ m. m.vars) table c.in-Some.ensures.lower c.args.id m c.in-Some.ensures.manifest) ∙ vars_append m.vars (flat_map f m.subs) old)

pub returns-clause-types : goal.returns-clause-types
returns-clause-types t c =
    let table = c.args.manifests.now in
    let m = c.in-Some.manifest.now in
    let g : Bytes × ManifestId → List (Bytes × Bytes) = λ s. all_types table s.1 in
    let old = c.args.types.now in
    c.loop-sub.invariant.1
    ∙ (λ k. put_types (flat_map g ((take_all c.loop-sub.sub-index c.sub_modules-sub-items.result.now c.loop-sub-test.false ∙ c.sub_modules-sub-items.ensures) k)) ((c.in_ok-put_types.ensures ∙ ap (λ ts. put_types ts old) c.custom_types.ensures) k))
    ∙ sym (ap (λ ts. put_types ts old) (over_walk-is (λ m. m.types) table c.in-Some.ensures.lower c.args.id m c.in-Some.ensures.manifest) ∙ types_append m.types (flat_map g m.subs) old)
