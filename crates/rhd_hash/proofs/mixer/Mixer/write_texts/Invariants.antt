use Rattle.std.proofs.Common.{◌≡◌, take}
use Rattle.rhd_hash.specs.Mix.{after}
use Rattle.rhd_hash.specs.Parts.{texts_bytes}
use Rattle.rhd_hash.proofs.mixer.Mixer.write_texts.Given as goal

abbrev pub invariant-loop-text : goal.invariant-loop-text
invariant-loop-text l = l.self ≡ after l.initial.self (texts_bytes (take l.text-index l.texts))
