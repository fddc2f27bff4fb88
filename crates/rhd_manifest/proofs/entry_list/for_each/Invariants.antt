use Rattle.std.proofs.Common.{drop}
use Rattle.std.specs.Fn.{CalledAt}
use Rattle.std.specs.List.{FoldsTo}
use Rattle.rhd_manifest.proofs.entry_list.for_each.Given as goal

abbrev pub invariant-loop-entry : goal.invariant-loop-entry
invariant-loop-entry g l =
    goal.F-IsAlwaysCallable g l.f
    × ((last : _) → FoldsTo (λ p e q. CalledAt g.F.FnMut p e tt q) l.f (drop l.entry-index l.entries) last → FoldsTo (λ p e q. CalledAt g.F.FnMut p e tt q) l.initial.f l.entries last)
