use Rattle.std.proofs.Common.{◌≡◌, take}
use Rattle.rhd_hash.specs.Mix.{after}
use Rattle.rhd_hash.proofs.mixer.Mixer.write.Given as goal

abbrev pub invariant-loop-byte : goal.invariant-loop-byte
invariant-loop-byte l = l.self ≡ after l.initial.self (take l.byte-index l.bytes)
