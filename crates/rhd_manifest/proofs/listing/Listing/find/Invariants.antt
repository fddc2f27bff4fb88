use Rattle.std.proofs.Common.{◌≡◌}
use Rattle.rhd_manifest.specs.Listing.{listed_in}
use Rattle.rhd_manifest.specs.Rank.{find_entry}
use Rattle.rhd_manifest.proofs.listing.Listing.find.Given as goal

abbrev pub invariant-loop-part : goal.invariant-loop-part
invariant-loop-part l = find_entry l.key (listed_in l.part-iterator.iter.rest.now) ≡ find_entry l.key l.self
