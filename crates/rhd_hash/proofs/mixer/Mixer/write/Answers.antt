use Rattle.std.proofs.Common.{◌∙◌, sym, ap, ◌∷◌, [], get_or, take}
use Rattle.std.proofs.lemmas.List.{take_more}
use Rattle.rhd_hash.specs.Mix.{after}
use Rattle.rhd_hash.proofs.Mixing.{after_append, after_nil}
use Rattle.rhd_hash.proofs.mixer.Mixer.write.Goals as goal

pub loop-byte-init : goal.loop-byte-init
loop-byte-init c = sym (after_nil _)

pub loop-byte-preserved : goal.loop-byte-preserved
loop-byte-preserved c =
    let s = c.args.bytes.now in
    let i = c.loop-byte.byte-index in
    let e = take_more s i 0 c.loop-byte-test.true in
    c.write_u8.ensures ∙ ap (λ m. after m (get_or s i 0 ∷ [])) c.loop-byte.invariant ∙ after_append c.args.self.now (take i s) (get_or s i 0 ∷ []) ∙ ap (after c.args.self.now) (sym e)
