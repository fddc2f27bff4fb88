use Rattle.std.proofs.Common.{drop, reverse, true}
use Rattle.std.specs.Fn.{CalledAt}
use Rattle.std.specs.List.{FoldsTo, flat_map}
use Rattle.rhd_manifest.specs.Rank.{flattened, rank_of}
use Rattle.rhd_manifest.proofs.manifest.ModuleManifest.for_each_fn.Given as goal

abbrev pub invariant-loop-sub : goal.invariant-loop-sub
invariant-loop-sub g l =
    goal.F-IsAlwaysCallable g l.f
    × ((last : _) → FoldsTo (λ p e q. CalledAt g.F.FnMut p e tt q) l.f (flat_map (λ s. reverse (flattened l.manifests s.1)) (drop l.sub-index l.sub-items)) last
    → FoldsTo (λ p e q. CalledAt g.F.FnMut p e tt q) l.fn.f (reverse (rank_of l.manifests l.self true)) last)
