use Rattle.std.proofs.Common.{rules, sym, ap, ◌∙◌, ◌∷◌, []}
use Rattle.rhd_hash.specs.Mix.{after, seven_zeros}
use Rattle.rhd_hash.specs.Parts.{count_bytes}
use Rattle.rhd_hash.proofs.Mixing.{after_append, small_count}
use Rattle.rhd_hash.proofs.mixer.Mixer.write_count.Goals as goal

pub returns-then-count-lt256 : goal.returns-then-count-lt256
returns-then-count-lt256 c =
    let n = c.args.count in
    c.write_zeros.ensures ∙ ap (λ m. after m seven_zeros) c.write_u8.ensures ∙ after_append c.args.self.now (n ∷ []) seven_zeros ∙ ap (after c.args.self.now) (sym (small_count n c.if-count-lt256.true))

pub returns-else-count-lt256 : goal.returns-else-count-lt256
unfolding count_bytes
returns-else-count-lt256 c = search rules
