use Rattle.std.proofs.Common.{◌≡◌, true, take}
use Rattle.rhd_manifest.specs.Listing.{listed_in, is_none_of}
use Rattle.rhd_manifest.proofs.listing.no_entry.Given as goal

abbrev pub invariant-loop-part : goal.invariant-loop-part
invariant-loop-part l = is_none_of (listed_in (take l.part-index l.parts)) ≡ true
