use Rattle.std.proofs.Common.{◌≡◌, ℕ, ◌+◌, ◌-◌, ◌<◌, zero, suc, refl, ap, ◌∙◌, set, length, arith}
use Rattle.rhd_layers.specs.Lists.{all_indexed, with_last}
use Rattle.rhd_layers.specs.Marks.{named_one, lacks_below}
use Rattle.rhd_layers.proofs.Indexed.{last_set, last_indexed}
use Rattle.rhd_layers.proofs.Told.{became_told, last_adds}
use Rattle.rhd_layers.proofs.lists.ImportList.set_last.Goals as goal

some : (n : ℕ) → (n ≡ 0 → ⊥) → 0 < n
some zero h = absurd (h refl)
some (suc n) h = omega arith

pub invariant_of-self : goal.invariant_of-self
invariant_of-self c =
    let es = c.self.inside.items.items in
    let n = c.len-len.result - 1 in
    let next : n + 1 ≡ length es = omega (arith, some c.len-len.result c.if-len-eq0.false, c.len-len.ensures) in
    let is : set es n (c.index_mut.result.now.0, c.args.added) ≡ with_last c.args.added es = last_set es n c.index_mut.result.now c.args.added next c.index_mut.ensures.value in (
      ap all_indexed is ∙ last_indexed es c.args.added c.requires c.self.invariant.0,
      became_told named_one lacks_below 128 c.self.inside.marks c.self.inside.keys c.add_tree.new.self c.add_tree.new.keys es (set es n (c.index_mut.result.now.0, c.args.added)) (with_last c.args.added es) c.module.result.now c.args.added c.module.ensures is
          (last_adds es c.args.added) c.self.invariant.1 c.add_tree.ensures.grows c.add_tree.ensures.keys c.add_tree.ensures.dynamic,
    )
