use Rattle.std.proofs.Common.{reverse, Option}
use Rattle.std.specs.Fn.{FnReturnsAt}
use Rattle.rhd_manifest.specs.Entry.{Entry}
use Rattle.rhd_manifest.specs.Meets.{IsFirstThatMeets}
use Rattle.rhd_manifest.proofs.entry_list.find_last_that.Given as goal

abbrev pub invariant-loop-entry : goal.invariant-loop-entry
invariant-loop-entry g l =
    (found : Option Entry) → IsFirstThatMeets (λ e r. FnReturnsAt g.F.Fn l.f e r) (reverse l.entry-iterator.iter.rest.now) found → IsFirstThatMeets (λ e r. FnReturnsAt g.F.Fn l.f e r) (reverse l.entries) found
