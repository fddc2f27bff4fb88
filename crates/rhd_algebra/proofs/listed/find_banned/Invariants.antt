use Rattle.std.proofs.Common.{◌≡◌, drop}
use Rattle.std.specs.List.{find}
use Rattle.rhd_module.specs.Manifests.{is_banned_entry}
use Rattle.rhd_algebra.proofs.listed.find_banned.Given as goal

abbrev pub invariant-loop-entry : goal.invariant-loop-entry
invariant-loop-entry l = find is_banned_entry (drop l.entry-index l.entries) ≡ find is_banned_entry l.entries
