use Rattle.std.proofs.Common.{◌<◌, ◌++◌, reverse, Option}
use Rattle.std.specs.Fn.{FnReturnsAt}
use Rattle.std.specs.List.{flat_map, AllByRecursion}
use Rattle.rhd_manifest.specs.Entry.{Entry}
use Rattle.rhd_manifest.specs.Meets.{IsFirstThatMeets}
use Rattle.rhd_manifest.specs.Rank.{flattened}
use Rattle.rhd_manifest.proofs.walk.+find_flattened.Given as goal

abbrev pub decreases-find_flattened : goal.decreases-find_flattened
decreases-find_flattened g l = l.id.0

abbrev pub invariant-loop-sub : goal.invariant-loop-sub
invariant-loop-sub g l =
    AllByRecursion (λ s. s.1.0 < l.fn.id.0) l.sub-iterator.iter.rest.now
    × ((found : Option Entry) → IsFirstThatMeets (λ e r. FnReturnsAt g.F.Fn l.f e r) (flat_map (λ s. flattened l.manifests s.1) (reverse l.sub-iterator.iter.rest.now) ++ reverse l.manifest.entries) found
    → IsFirstThatMeets (λ e r. FnReturnsAt g.F.Fn l.f e r) (flattened l.manifests l.fn.id) found)
