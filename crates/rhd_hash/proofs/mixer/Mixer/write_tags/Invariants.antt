use Rattle.std.proofs.Common.{◌≡◌, take}
use Rattle.std.specs.List.{flat_map}
use Rattle.rhd_hash.specs.Mix.{after}
use Rattle.rhd_hash.specs.Parts.{tag_bytes}
use Rattle.rhd_hash.proofs.mixer.Mixer.write_tags.Given as goal

abbrev pub invariant-loop-tag : goal.invariant-loop-tag
invariant-loop-tag l = l.self ≡ after l.initial.self (flat_map tag_bytes (take l.tag-index l.tags))
