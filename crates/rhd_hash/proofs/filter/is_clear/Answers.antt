use Rattle.std.proofs.Common.{ap, ◌∙◌, eqb-true, eq-eqb}
use Rattle.std.specs.Int.{bit_at}
use Rattle.std.proofs.lemmas.Nat.Bits.{bit_at-zero}
use Rattle.rhd_hash.proofs.Filters.{no_bits}
use Rattle.rhd_hash.proofs.filter.is_clear.Goals as goal

pub returns : goal.returns
returns c = (λ e i h. ap (λ b. bit_at b i) (eqb-true c.args.byte 0 e) ∙ bit_at-zero i, λ none. eq-eqb c.args.byte 0 (no_bits c.args.byte c.ranges.byte.fits none))
