use Rattle.std.proofs.Common.{◌≡◌, take}
use Rattle.std.specs.List.{flat_map, Contains}
use Rattle.rhd_func.specs.declared.access.ManifestId.{ManifestId}
use Rattle.rhd_manifest.specs.Rank.{walk}
use Rattle.rhd_module.specs.Made.{with_subs, made, IsMadeApart}
use Rattle.rhd_algebra.proofs.combining.+module_of.Given as goal

abbrev pub decreases-module_of : goal.decreases-module_of
decreases-module_of l = l.id.0

abbrev pub invariant-loop-name : goal.invariant-loop-name
invariant-loop-name l =
    (l.made ≡ with_subs (made l.seeds l.manifests) (take l.name-index l.name-items) l.initial.made)
    × ((i : ManifestId) → Contains (flat_map (λ s. walk l.manifests s.1) (take l.name-index l.name-items)) i → IsMadeApart l.seeds l.manifests i)
