use Rattle.std.proofs.Common.{◌≡◌, ◌++◌, reverse, take}
use Rattle.std.specs.List.{flat_map}
use Rattle.rhd_manifest.specs.Listing.{listed_in}
use Rattle.rhd_manifest.specs.Rank.{flattened}
use Rattle.rhd_manifest.proofs.listing.+list_flattened.Given as goal

abbrev pub decreases-list_flattened : goal.decreases-list_flattened
decreases-list_flattened l = l.id.0

abbrev pub invariant-loop-sub : goal.invariant-loop-sub
invariant-loop-sub l = listed_in l.parts.items ≡ flat_map (λ s. flattened l.manifests s.1) (reverse (take l.sub-index l.sub-items)) ++ listed_in l.initial.parts.items
