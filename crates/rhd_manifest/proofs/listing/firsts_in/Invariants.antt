use Rattle.std.proofs.Common.{◌≡◌, map, drop}
use Rattle.rhd_manifest.specs.Listing.{listed_in}
use Rattle.rhd_manifest.specs.Rank.{firsts}
use Rattle.rhd_manifest.proofs.listing.firsts_in.Given as goal

abbrev pub invariant-loop-place : goal.invariant-loop-place
invariant-loop-place l = map (λ e. e.now) l.found.items ≡ firsts (listed_in (drop l.place l.parts))
