use Rattle.std.proofs.Common.{◌≡◌, ◌+◌, ◌-◌, ap, arith, ◌∙◌}
use Rattle.rhd_hash.specs.declared.mixer.Seeds.{Seeds}
use Rattle.rhd_hash.specs.Parts.{dynamic_hash}
use Rattle.rhd_table.proofs.PlacesBack.{index_less_past, index_less_other, index_less_noted}
use Rattle.rhd_table.proofs.growing.forget_places.Goals as goal

pub loop-place-preserved : goal.loop-place-preserved
loop-place-preserved c =
    let n = c.loop-place.place in
    let last : n - 1 + 1 ≡ n = omega arith in
    record { above = omega arith; below = omega arith; index = index_less_past c.args.table.now.seeds c.args.table.now.pairs (n - 1) n last c.loop-place.natives c.loop-place.invariant.index c.in_default.ensures }

pub loop-place-preserved-in_default-dynamic_hash : goal.loop-place-preserved-in_default-dynamic_hash
loop-place-preserved-in_default-dynamic_hash c =
    let n = c.loop-place.place in
    let last : n - 1 + 1 ≡ n = omega arith in
    record {
      above = omega arith;
      below = omega arith;
      index =
          index_less_other c.args.table.now.seeds c.args.table.now.pairs (n - 1) n last c.loop-place.natives c.loop-place.invariant.index c.in-Some.key.now c.in-Some._declaration.now c.in-Some.ensures
          (c.in_default-dynamic_hash.ensures ∙ ap (λ (s : Seeds). dynamic_hash s c.in-Some.key.now) c.seeds.ensures);
    }

pub loop-place-preserved-in-Some-dynamic_hash : goal.loop-place-preserved-in-Some-dynamic_hash
loop-place-preserved-in-Some-dynamic_hash c =
    let n = c.loop-place.place in
    let last : n - 1 + 1 ≡ n = omega arith in
    record {
      above = omega arith;
      below = omega arith;
      index =
          index_less_noted c.args.table.now.seeds c.args.table.now.pairs (n - 1) n last c.loop-place.natives c.loop-place.invariant.index c.in-Some.key.now c.in-Some._declaration.now c.in-Some.ensures
          c.unnote.new.self c.in-Some-dynamic_hash.hash (c.in-Some-dynamic_hash.ensures ∙ ap (λ (s : Seeds). dynamic_hash s c.in-Some.key.now) c.seeds.ensures)
          c.unnote.ensures;
    }
