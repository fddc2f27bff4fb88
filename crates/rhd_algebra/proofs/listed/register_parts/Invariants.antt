use Rattle.std.proofs.Common.{◌≡◌, map, take}
use Rattle.rhd_manifest.specs.Entry.{entry_pair}
use Rattle.rhd_manifest.specs.Listing.{listed_in}
use Rattle.rhd_module.specs.Manifests.{with_pairs}
use Rattle.rhd_table.specs.Pairs.{put_back}
use Rattle.rhd_algebra.proofs.listed.register_parts.Given as goal

abbrev pub invariant-loop-part : goal.invariant-loop-part
invariant-loop-part l = l.target ≡ with_pairs (put_back (map (entry_pair l.initial.target.own.seeds) (listed_in (take l.part-index l.parts))) l.initial.target.own.eager) l.target.own.indexed l.initial.target
