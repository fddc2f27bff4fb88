use Rattle.std.proofs.Common.{◌≡◌, map, reverse, take}
use Rattle.rhd_manifest.specs.Entry.{entry_pair}
use Rattle.rhd_module.specs.Manifests.{with_pairs}
use Rattle.rhd_table.specs.Pairs.{put_back}
use Rattle.rhd_algebra.proofs.listed.register_entries.Given as goal

abbrev pub invariant-loop-entry : goal.invariant-loop-entry
invariant-loop-entry l = l.target ≡ with_pairs (put_back (map (entry_pair l.initial.target.own.seeds) (reverse (take l.entry-index l.entries))) l.initial.target.own.eager) l.target.own.indexed l.initial.target
