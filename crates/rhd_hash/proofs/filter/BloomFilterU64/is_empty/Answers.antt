use Rattle.std.proofs.Common.{sym, ap, refl, arith, inl, inr, get_or, ◌∙◌}
use Rattle.std.specs.Int.{bit_at}
use Rattle.std.proofs.lemmas.Bool.Decides.{eqb_tells}
use Rattle.rhd_hash.proofs.Filters.{none_marked, none_set}
use Rattle.rhd_hash.proofs.filter.BloomFilterU64.is_empty.Goals as goal

pub loop-byte-init : goal.loop-byte-init
loop-byte-init g c = λ k h. absurd (omega arith)

pub returns-then-not-is_clear : goal.returns-then-not-is_clear
returns-then-not-is_clear g c =
    rw (← c.self.view_is) (λ e. absurd cc, λ none. sym c.if-not-is_clear.true ∙ c.is_clear.ensures.1 (none_set g.row.SIZE c.self.inside.bytes none c.loop-byte.byte-index c.loop-byte-test.true))

pub loop-byte-preserved : goal.loop-byte-preserved
loop-byte-preserved g c = λ k h i small. elim (eqb_tells k c.loop-byte.byte-index) [
  | inl e ↦ (ap (λ j. bit_at (get_or c.self.inside.bytes j 0) i) e.1 ∙ c.is_clear.ensures.0 c.if-not-is_clear.false i small)
  | inr n ↦ c.loop-byte.invariant k (omega (arith, n.1)) i small
]

pub returns : goal.returns
returns g c = rw (← c.self.view_is) (λ e. none_marked g.row.SIZE c.self.inside.bytes c.self.told (λ k h. c.loop-byte.invariant k (omega arith)), λ none. refl)
