use Rattle.std.proofs.Common.{◌≡◌, take}
use Rattle.rhd_manifest.proofs.entry_list.EntryList.dup.Given as goal

abbrev pub invariant-loop-entry : goal.invariant-loop-entry
invariant-loop-entry l = l.copy ≡ take l.entry-index l.self
