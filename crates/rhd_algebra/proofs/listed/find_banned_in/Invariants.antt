use Rattle.std.proofs.Common.{◌≡◌, drop}
use Rattle.rhd_manifest.specs.Listing.{listed_in}
use Rattle.rhd_module.specs.Manifests.{first_banned}
use Rattle.rhd_algebra.proofs.listed.find_banned_in.Given as goal

abbrev pub invariant-loop-part : goal.invariant-loop-part
invariant-loop-part l = first_banned (listed_in (drop l.part-index l.parts)) ≡ first_banned (listed_in l.parts)
