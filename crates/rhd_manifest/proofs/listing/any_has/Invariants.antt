use Rattle.std.proofs.Common.{◌≡◌, drop}
use Rattle.std.specs.List.{list_any}
use Rattle.rhd_manifest.specs.Listing.{listed_in}
use Rattle.rhd_manifest.proofs.Firsts.{under}
use Rattle.rhd_manifest.proofs.listing.any_has.Given as goal

abbrev pub invariant-loop-part : goal.invariant-loop-part
invariant-loop-part l = list_any (under l.key) (listed_in (drop l.part-index l.parts)) ≡ list_any (under l.key) (listed_in l.parts)
