use Rattle.std.proofs.Common.{◌++◌, reverse, true, Option}
use Rattle.std.specs.Fn.{FnReturnsAt}
use Rattle.std.specs.List.{flat_map}
use Rattle.rhd_manifest.specs.Entry.{Entry}
use Rattle.rhd_manifest.specs.Meets.{IsFirstThatMeets}
use Rattle.rhd_manifest.specs.Rank.{flattened, rank_of}
use Rattle.rhd_manifest.proofs.manifest.ModuleManifest.find_fn.Given as goal

abbrev pub invariant-loop-sub : goal.invariant-loop-sub
invariant-loop-sub g l =
    (found : Option Entry) → IsFirstThatMeets (λ e r. FnReturnsAt g.F.Fn l.f e r) (flat_map (λ s. flattened l.manifests s.1) (reverse l.sub-iterator.iter.rest.now) ++ reverse l.self.entries) found
    → IsFirstThatMeets (λ e r. FnReturnsAt g.F.Fn l.f e r) (rank_of l.manifests l.self true) found
