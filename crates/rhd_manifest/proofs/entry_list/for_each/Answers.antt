use Rattle.std.proofs.Common.{of_calls, sym, subst, List}
use Rattle.std.proofs.lemmas.List.{drop_more}
use Rattle.std.specs.Fn.{CalledAt}
use Rattle.std.specs.List.{FoldsTo}
use Rattle.rhd_manifest.specs.Entry.{Entry}
use Rattle.rhd_manifest.proofs.entry_list.for_each.Goals as goal

pub loop-entry-preserved : goal.loop-entry-preserved
loop-entry-preserved g c = (
  search of_calls,
  λ last h.
      let P : List Entry → Type 0 = λ es. FoldsTo (λ p e q. CalledAt g.F.FnMut p e tt q) c.loop-entry.f es last in
      c.loop-entry.invariant.1 last (subst P (sym (drop_more c.args.entries.now c.loop-entry.entry-index c.entry-item.result c.loop-entry-test.true)) (c.f.new.self, record { shown = _; shows = c.entry-item.is; called = c.f.ensures }, h)),
)
