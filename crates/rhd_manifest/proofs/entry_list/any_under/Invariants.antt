use Rattle.std.proofs.Common.{◌≡◌, drop}
use Rattle.std.specs.List.{list_any}
use Rattle.rhd_manifest.proofs.Firsts.{under}
use Rattle.rhd_manifest.proofs.entry_list.any_under.Given as goal

abbrev pub invariant-loop-entry : goal.invariant-loop-entry
invariant-loop-entry l = list_any (under l.key) (drop l.entry-index l.entries) ≡ list_any (under l.key) l.entries
