use Rattle.std.proofs.Common.{◌≡◌, take}
use Rattle.rhd_manifest.specs.Listing.{listed_in}
use Rattle.rhd_manifest.proofs.listing.Listing.dup.Given as goal

abbrev pub invariant-loop-part : goal.invariant-loop-part
invariant-loop-part l = listed_in l.parts.items ≡ listed_in (take l.part-index l.part-items)
