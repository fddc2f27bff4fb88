use Rattle.std.proofs.Common.{◌≡◌, ◌++◌, map, reverse, drop}
use Rattle.rhd_manifest.specs.Listing.{listed_in}
use Rattle.rhd_manifest.specs.Rank.{firsts}
use Rattle.rhd_manifest.proofs.listing.push_firsts.Given as goal

abbrev pub invariant-loop-place : goal.invariant-loop-place
invariant-loop-place l = map (λ e. e.now) l.found.items ≡ firsts (listed_in l.above ++ reverse (drop l.place l.part))
