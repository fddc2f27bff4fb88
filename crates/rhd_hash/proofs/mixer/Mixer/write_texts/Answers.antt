use Rattle.std.proofs.Common.{◌∙◌, sym, ap}
use Rattle.rhd_hash.specs.Mix.{after}
use Rattle.rhd_hash.specs.Parts.{text_bytes}
use Rattle.rhd_hash.proofs.Mixing.{after_nil, after_each}
use Rattle.rhd_hash.proofs.mixer.Mixer.write_texts.Goals as goal

pub loop-text-init : goal.loop-text-init
loop-text-init c = sym (after_nil _)

pub loop-text-preserved : goal.loop-text-preserved
loop-text-preserved c =
    c.write_text.ensures ∙ ap (λ t. after c.loop-text.self (text_bytes t)) c.text-item.is ∙ after_each text_bytes c.args.texts.now c.loop-text.text-index _ c.loop-text-test.true _ _ c.loop-text.invariant
