use Rattle.std.proofs.Common.{List, sym, subst}
use Rattle.rhd_manifest.specs.Manifest.{ManifestLists, AreLower}
use Rattle.rhd_manifest.proofs.Tables.{lower_new}
use Rattle.rhd_manifest.proofs.manifests.Manifests.new.Goals as goal

pub invariant_of-result : goal.invariant_of-result
invariant_of-result c = let P : List ManifestLists → Type 0 = λ t. AreLower t in subst P (sym c.new.ensures.items) lower_new
