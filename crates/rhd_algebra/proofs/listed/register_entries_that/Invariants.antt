use Rattle.std.proofs.Common.{◌≡◌, Bool, map, reverse, take}
use Rattle.std.specs.Fn.{FnReturnsAt}
use Rattle.rhd_decl.specs.declared.declaration.Declaration.{Declaration}
use Rattle.rhd_module.specs.Algebra.{that_pass}
use Rattle.rhd_table.specs.Tells.{Tells}
use Rattle.rhd_manifest.specs.Entry.{entry_pair}
use Rattle.rhd_module.specs.Manifests.{with_pairs}
use Rattle.rhd_table.specs.Pairs.{put_back}
use Rattle.rhd_algebra.proofs.listed.register_entries_that.Given as goal

abbrev pub invariant-loop-entry : goal.invariant-loop-entry
invariant-loop-entry g l =
    (tells : Declaration → Bool) → Tells (FnReturnsAt g.F.Fn l.passes) tells
    → l.made ≡ with_pairs (put_back (that_pass tells (map (entry_pair l.initial.made.own.seeds) (reverse (take l.entry-index l.entries)))) l.initial.made.own.eager) l.made.own.indexed l.initial.made
