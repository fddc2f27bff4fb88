use Rattle.std.proofs.Common.{◌≡◌, take}
use Rattle.rhd_manifest.proofs.manifest.dup_types.Given as goal

abbrev pub invariant-loop-named : goal.invariant-loop-named
invariant-loop-named l = l.copy.items ≡ take l.named-index l.types
