use Rattle.std.proofs.Common.{◌≡◌, take}
use Rattle.std.specs.List.{flat_map}
use Rattle.rhd_manifest.specs.Rank.{all_vars, all_types}
use Rattle.rhd_module.specs.Manifests.{put_vars, put_types}
use Rattle.rhd_algebra.proofs.combining.+put_contents.Given as goal

abbrev pub decreases-put_contents : goal.decreases-put_contents
decreases-put_contents l = l.id.0

abbrev pub invariant-loop-sub : goal.invariant-loop-sub
invariant-loop-sub l =
    (l.vars ≡ put_vars (flat_map (λ s. all_vars l.manifests s.1) (take l.sub-index l.sub-items)) l.initial.vars)
    × (l.types ≡ put_types (flat_map (λ s. all_types l.manifests s.1) (take l.sub-index l.sub-items)) l.initial.types)
