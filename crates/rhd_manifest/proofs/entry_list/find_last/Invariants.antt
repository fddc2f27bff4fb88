use Rattle.std.proofs.Common.{◌≡◌, reverse}
use Rattle.rhd_manifest.specs.Rank.{find_entry}
use Rattle.rhd_manifest.proofs.entry_list.find_last.Given as goal

abbrev pub invariant-loop-entry : goal.invariant-loop-entry
invariant-loop-entry l = find_entry l.key (reverse l.entry-iterator.iter.rest.now) ≡ find_entry l.key (reverse l.entries)
