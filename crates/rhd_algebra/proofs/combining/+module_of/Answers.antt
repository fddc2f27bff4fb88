use Rattle.std.proofs.Common.{◌≡◌, ◌+◌, ◌<◌, List, ◌∷◌, ◌++◌, [], take, take_all, drop, sym, ap, subst, append-nil, ◌∙◌, arith, inl, inr}
use Rattle.std.specs.List.{flat_map, AllByRecursion, Contains}
use Rattle.std.specs.Map.{keys_of}
use Rattle.std.proofs.lemmas.List.{take_more, drop_more, take-append-drop}
use Rattle.std.proofs.lemmas.Result.{IfOk-weaker}
use Rattle.std.proofs.lemmas.Grind.{flat_map-append}
use Rattle.std.proofs.lemmas.List.Elements.{Contains-append_right, Contains-append_cases}
use Rattle.rhd_value.specs.Tree.{Bytes}
use Rattle.rhd_func.specs.declared.access.ManifestId.{ManifestId}
use Rattle.rhd_manifest.specs.Rank.{walk}
use Rattle.rhd_manifest.proofs.Ranks.{all_index, walk-is}
use Rattle.rhd_module.specs.Contents.{with_sub}
use Rattle.rhd_table.specs.Indexed.{IsClash}
use Rattle.rhd_module.specs.Index.{indexed}
use Rattle.rhd_module.specs.Made.{with_subs, made, IsMadeApart, MadeClash}
use Rattle.rhd_module.specs.Tree.{ModuleTree}
use Rattle.rhd_module.specs.Walk.{tree}
use Rattle.rhd_table.proofs.Fills.{if_err, if_more}
use Rattle.rhd_algebra.proofs.Made.{all_lower, subs_append, subs_seeds, made-is, contains_flat, made_among, made_here, apart_here}
use Rattle.rhd_algebra.proofs.combining.+module_of.Goals as goal

pub module_of-requires : goal.module_of-requires
module_of-requires t c =
    let table = c.args.manifests.now in
    let All : List (Bytes × ManifestId) → Type 0 = λ xs. AllByRecursion (λ s. s.1.0 < c.args.id.0) xs in
    let here = all_index (λ s. s.1.0 < c.args.id.0) c.subs_of-name-items.result.now c.loop-name.name-index c.loop-name-item.result
    (subst All (sym c.subs_of-name-items.ensures.subs) (all_lower table c.subs_of-name-items.ensures.lower c.args.id)) c.loop-name-test.true in
    let Below : Bytes × ManifestId → Type 0 = λ s. s.1.0 < c.args.id.0 in
    let less = subst Below (sym c.loop-name-item.is) here in
    (omega (arith, less), tt)

pub returns-in_err-child-clause-clash : goal.returns-in_err-child-clause-clash
returns-in_err-child-clause-clash t c =
    let table = c.args.manifests.now in
    let xs = c.subs_of-name-items.result.now in
    let i = c.loop-name.name-index in
    let x = c.loop-name-item.result in
    let f : Bytes × ManifestId → List ManifestId = λ s. walk table s.1 in
    let fault = c.in_err-child.field-0.0 in
    let parts : xs ≡ take i xs ++ x ∷ drop (i + 1) xs = sym (take-append-drop i xs) ∙ ap (λ ys. take i xs ++ ys) (drop_more xs i x c.loop-name-test.true ∙ ap (λ y. y ∷ drop (i + 1) xs) (sym c.loop-name-item.is)) in
    let whole : walk table c.args.id ≡ c.args.id ∷ flat_map f xs = walk-is table c.subs_of-name-items.ensures.lower c.args.id ∙ ap (λ ys. c.args.id ∷ flat_map f ys) (sym c.subs_of-name-items.ensures.subs) in
    let P : List ManifestId → ManifestId → Type 0 = λ ys j. Contains ys j in
    if_err c.from_residual-in_err-child.result fault _ c.from_residual-in_err-child.ensures
    (made_among c.args.seeds table (walk table x.1) (walk table c.args.id) fault
    (λ j there. subst (λ ys. P ys j) (sym whole) (Contains-append_right (c.args.id ∷ []) (flat_map f xs) j (contains_flat f (take i xs) (drop (i + 1) xs) xs x j parts there)))
    c.in_err-child.ensures.clash)

pub loop-name-preserved : goal.loop-name-preserved
loop-name-preserved t c =
    let table = c.args.manifests.now in
    let seeds = c.args.seeds in
    let xs = c.subs_of-name-items.result.now in
    let i = c.loop-name.name-index in
    let x = c.loop-name-item.result in
    let init = c.in_ok-made.made in
    let f : Bytes × ManifestId → List ManifestId = λ s. walk table s.1 in
    let next = take_more xs i x c.loop-name-test.true ∙ ap (λ y. take i xs ++ y ∷ []) (sym c.loop-name-item.is) in
    let ids : flat_map f (take (i + 1) xs) ≡ flat_map f (take i xs) ++ f x = ap (flat_map f) next ∙ flat_map-append f (take i xs) (x ∷ []) ∙ ap (λ ys. flat_map f (take i xs) ++ ys) (append-nil (f x)) in (
      c.in_ok-set_sub_module.ensures.ok ∙ (λ k. with_sub (c.in_ok-dup.ensures k) ((c.in_ok-new.ensures.ok ∙ c.in_ok-child.ensures.ok) k) (c.loop-name.invariant.0 k))
          ∙ sym (ap (λ ys. with_subs (made seeds table) ys init) next ∙ subs_append (made seeds table) (take i xs) (x ∷ []) init),
      λ j there. elim (Contains-append_cases (flat_map f (take i xs)) (f x) j (subst (λ ys. Contains ys j) ids there)) [
        | inl before ↦ c.loop-name.invariant.1 j before
        | inr here ↦ c.in_ok-child.ensures.apart j here
      ],
    )

pub returns-clause-ok : goal.returns-clause-ok
returns-clause-ok t c =
    let table = c.args.manifests.now in
    let seeds = c.args.seeds in
    let xs = c.subs_of-name-items.result.now in
    let all = take_all c.loop-name.name-index xs c.loop-name-test.false ∙ c.subs_of-name-items.ensures.subs in
    let whole : indexed c.loop-name.made ≡ made seeds table c.args.id =
    ap indexed (c.loop-name.invariant.0 ∙ (λ k. with_subs (made seeds table) (all k) (c.in_ok-made.ensures k)))
    ∙ sym (made-is seeds table c.subs_of-name-items.ensures.lower c.args.id) in
    IfOk-weaker c.indexed.result _ _ (λ made e. e ∙ whole) c.indexed.ensures.ok

pub returns-clause-apart : goal.returns-clause-apart
returns-clause-apart t c =
    let table = c.args.manifests.now in
    let seeds = c.args.seeds in
    let xs = c.subs_of-name-items.result.now in
    let init = c.in_ok-made.made in
    let f : Bytes × ManifestId → List ManifestId = λ s. walk table s.1 in
    let ended = take_all c.loop-name.name-index xs c.loop-name-test.false in
    let all = ended ∙ c.subs_of-name-items.ensures.subs in
    let whole : indexed c.loop-name.made ≡ made seeds table c.args.id =
    ap indexed (c.loop-name.invariant.0 ∙ (λ k. with_subs (made seeds table) (all k) (c.in_ok-made.ensures k)))
    ∙ sym (made-is seeds table c.subs_of-name-items.ensures.lower c.args.id) in
    let same : c.loop-name.made.own.seeds ≡ seeds = ap (λ (n : ModuleTree). n.own.seeds) c.loop-name.invariant.0 ∙ subs_seeds (made seeds table) (take c.loop-name.name-index xs) init ∙ ap (λ (n : ModuleTree). n.own.seeds) c.in_ok-made.ensures in
    let ids : walk table c.args.id ≡ c.args.id ∷ flat_map f xs = walk-is table c.subs_of-name-items.ensures.lower c.args.id ∙ ap (λ ys. c.args.id ∷ flat_map f ys) (sym c.subs_of-name-items.ensures.subs) in
    let below : (j : ManifestId) → Contains (flat_map f xs) j → IsMadeApart seeds table j = λ j there. c.loop-name.invariant.1 j (subst (λ ys. Contains (flat_map f ys) j) (sym ended) there) in
    IfOk-weaker c.indexed.result _ _
    (λ n none j there. apart_here seeds table (flat_map f xs) c.args.id c.loop-name.made whole same none below j (subst (λ ys. Contains ys j) ids there))
    c.indexed.ensures.apart

pub returns-clause-clash : goal.returns-clause-clash
returns-clause-clash t c =
    let table = c.args.manifests.now in
    let seeds = c.args.seeds in
    let xs = c.subs_of-name-items.result.now in
    let init = c.in_ok-made.made in
    let f : Bytes × ManifestId → List ManifestId = λ s. walk table s.1 in
    let all = take_all c.loop-name.name-index xs c.loop-name-test.false ∙ c.subs_of-name-items.ensures.subs in
    let whole : indexed c.loop-name.made ≡ made seeds table c.args.id =
    ap indexed (c.loop-name.invariant.0 ∙ (λ k. with_subs (made seeds table) (all k) (c.in_ok-made.ensures k)))
    ∙ sym (made-is seeds table c.subs_of-name-items.ensures.lower c.args.id) in
    let same : c.loop-name.made.own.seeds ≡ seeds = ap (λ (n : ModuleTree). n.own.seeds) c.loop-name.invariant.0 ∙ subs_seeds (made seeds table) (take c.loop-name.name-index xs) init ∙ ap (λ (n : ModuleTree). n.own.seeds) c.in_ok-made.ensures in
    let ids : walk table c.args.id ≡ c.args.id ∷ flat_map f xs = walk-is table c.subs_of-name-items.ensures.lower c.args.id ∙ ap (λ ys. c.args.id ∷ flat_map f ys) (sym c.subs_of-name-items.ensures.subs) in
    if_more c.indexed.result (IsClash c.loop-name.made.own.seeds (keys_of (tree c.loop-name.made))) (MadeClash seeds table (walk table c.args.id))
    (λ fault h. subst (λ ys. MadeClash seeds table ys fault) (sym ids) (made_here seeds table (flat_map f xs) c.args.id c.loop-name.made fault whole same h))
    c.indexed.ensures.clash
