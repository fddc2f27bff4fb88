use Rattle.std.proofs.Common.{◌≡◌, map, take}
use Rattle.std.specs.Str.{trim}
use Rattle.rhd_layers.proofs.parts.all_trimmed.Given as goal

abbrev pub invariant-loop-name : goal.invariant-loop-name
invariant-loop-name l = l.parts ≡ map trim (take l.name-index l.names)
