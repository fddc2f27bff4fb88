use Rattle.std.proofs.Common.{◌≡◌, take}
use Rattle.rhd_manifest.proofs.manifests.dup_all.Given as goal

abbrev pub invariant-loop-manifest : goal.invariant-loop-manifest
invariant-loop-manifest l = l.copy.items ≡ take l.manifest-index l.manifests
