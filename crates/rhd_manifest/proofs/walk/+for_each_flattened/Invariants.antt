use Rattle.std.proofs.Common.{drop, reverse}
use Rattle.std.specs.Fn.{CalledAt}
use Rattle.std.specs.List.{FoldsTo, flat_map}
use Rattle.rhd_manifest.specs.Rank.{flattened}
use Rattle.rhd_manifest.proofs.walk.+for_each_flattened.Given as goal

abbrev pub decreases-for_each_flattened : goal.decreases-for_each_flattened
decreases-for_each_flattened g l = l.id.0

abbrev pub invariant-loop-sub : goal.invariant-loop-sub
invariant-loop-sub g l =
    goal.F-IsAlwaysCallable g l.f
    × ((last : _) → FoldsTo (λ p e q. CalledAt g.F.FnMut p e tt q) l.f (flat_map (λ s. reverse (flattened l.manifests s.1)) (drop l.sub-index l.sub-items)) last
    → FoldsTo (λ p e q. CalledAt g.F.FnMut p e tt q) l.fn.f (reverse (flattened l.manifests l.fn.id)) last)
