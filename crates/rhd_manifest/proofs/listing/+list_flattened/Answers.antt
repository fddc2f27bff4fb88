use Rattle.std.proofs.Common.{◌<◌, ◌++◌, List, reverse, take_all, sym, ap, subst, append_assoc, ◌∙◌, arith}
use Rattle.std.specs.List.{flat_map, AllByRecursion}
use Rattle.rhd_value.specs.Tree.{Bytes}
use Rattle.rhd_func.specs.declared.access.ManifestId.{ManifestId}
use Rattle.rhd_manifest.specs.Entry.{Entry}
use Rattle.rhd_manifest.specs.Listing.{listed_in}
use Rattle.rhd_manifest.specs.Rank.{flattened}
use Rattle.rhd_manifest.proofs.Firsts.{listed_last}
use Rattle.rhd_manifest.proofs.Ranks.{of_held, lower_than, all_index}
use Rattle.rhd_manifest.proofs.listing.+list_flattened.Goals as goal

pub list_flattened-requires : goal.list_flattened-requires
list_flattened-requires t c =
    let table = c.args.manifests.now in
    let m = c.in-Some.manifest.now in
    let All : List (Bytes × ManifestId) → Type 0 = λ xs. AllByRecursion (λ s. s.1.0 < c.args.id.0) xs in
    let here = all_index (λ s. s.1.0 < c.args.id.0) c.sub_modules-sub-items.result.now c.loop-sub.sub-index c.sub-item.result
    (subst All (sym c.sub_modules-sub-items.ensures) (lower_than table c.in-Some.ensures.lower c.args.id m c.in-Some.ensures.manifest)) c.loop-sub-test.true in
    let Below : Bytes × ManifestId → Type 0 = λ s. s.1.0 < c.args.id.0 in
    let less = subst Below (sym c.sub-item.is) here in
    (omega (arith, less), tt)

pub returns : goal.returns
returns t c =
    let f : Bytes × ManifestId → List Entry = λ s. flattened c.args.manifests.now s.1 in
    let m = c.in-Some.manifest.now in
    let items = c.sub_modules-sub-items.result.now in
    let old = c.args.parts.now.items in
    c.loop-sub.invariant
    ∙ (λ i. flat_map f (reverse ((take_all c.loop-sub.sub-index items c.loop-sub-test.false ∙ c.sub_modules-sub-items.ensures) i)) ++ (ap listed_in c.in_ok-push.ensures.items ∙ listed_last old c.in_ok-share_functions.field-0 ∙ ap (λ es. reverse es ++ listed_in old) c.in_ok-share_functions.ensures) i)
    ∙ sym (ap (λ es. es ++ listed_in old) (of_held c.args.manifests.now c.in-Some.ensures.lower c.args.id m c.in-Some.ensures.manifest) ∙ append_assoc (flat_map f (reverse m.subs)) (reverse m.entries) (listed_in old))
