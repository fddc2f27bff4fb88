use Rattle.std.proofs.Common.{◌≡◌, ◌+◌, ◌-◌, ◌<◌, ◌++◌, ◌∷◌, [], cond, map, length, reverse, drop, get_or, sym, ap, append-nil, ◌∙◌, arith}
use Rattle.rhd_manifest.specs.Listing.{listed_in}
use Rattle.rhd_manifest.specs.Rank.{firsts}
use Rattle.rhd_manifest.proofs.Firsts.{first_step, hidden_by, map_last}
use Rattle.rhd_manifest.proofs.listing.push_firsts.Goals as goal

pub loop-place-preserved-in-Continue-1 : goal.loop-place-preserved-in-Continue-1
loop-place-preserved-in-Continue-1 c =
    let e = c.index-entries-place.result in
    let j = c.loop-place.place in
    let i = j - 1 in
    let some = c.loop-place-test.true in
    let next : j ≡ i + 1 = omega (arith, some) in
    let above = listed_in c.args.above.now in
    let part = c.args.part.now in
    let within : i < length part = omega (arith, some, c.loop-place.auto.place, ap length c.as_slice-entries.ensures) in
    let hidden = hidden_by above part i j e c.key.result.now next c.key.ensures ∙ sym c.is_hidden.ensures ∙ c.if-not-is_hidden.true in
    ap (map (λ e. e.now)) c.in_ok-push.ensures.items ∙ map_last (λ e. e.now) c.loop-place.found.items _ ∙ ap (λ es. es ++ e ∷ []) c.loop-place.invariant
    ∙ sym (first_step above part i j e next within (c.index-entries-place.is ∙ ap (λ es. get_or es i e) c.as_slice-entries.ensures) ∙ ap (λ b. firsts (above ++ reverse (drop j part)) ++ cond b [] (e ∷ [])) hidden)

pub loop-place-preserved : goal.loop-place-preserved
loop-place-preserved c =
    let e = c.index-entries-place.result in
    let j = c.loop-place.place in
    let i = j - 1 in
    let some = c.loop-place-test.true in
    let next : j ≡ i + 1 = omega (arith, some) in
    let above = listed_in c.args.above.now in
    let part = c.args.part.now in
    let within : i < length part = omega (arith, some, c.loop-place.auto.place, ap length c.as_slice-entries.ensures) in
    let hidden = hidden_by above part i j e c.key.result.now next c.key.ensures ∙ sym c.is_hidden.ensures ∙ c.if-not-is_hidden.false in
    c.loop-place.invariant
    ∙ sym (first_step above part i j e next within (c.index-entries-place.is ∙ ap (λ es. get_or es i e) c.as_slice-entries.ensures) ∙ ap (λ b. firsts (above ++ reverse (drop j part)) ++ cond b [] (e ∷ [])) hidden ∙ append-nil (firsts (above ++ reverse (drop j part))))
