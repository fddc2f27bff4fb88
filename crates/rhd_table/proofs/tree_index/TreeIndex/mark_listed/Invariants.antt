use Rattle.std.proofs.Common.{[], take, false}
use Rattle.std.specs.List.{list_any}
use Rattle.rhd_manifest.specs.Entry.{entry_key}
use Rattle.rhd_table.specs.Marks.{may_be_dynamic}
use Rattle.rhd_table.specs.Indexed.{Fills}
use Rattle.rhd_table.proofs.tree_index.TreeIndex.mark_listed.Given as goal

abbrev pub invariant-loop-entry : goal.invariant-loop-entry
invariant-loop-entry l = Fills l.initial.self l.self [] (λ v. list_any (λ e. may_be_dynamic l.initial.self.seeds v (entry_key e.now)) (take l.entry-index l.listed)) false
