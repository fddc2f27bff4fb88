use Rattle.std.proofs.Common.{◌≡◌, [], map, take}
use Rattle.rhd_module.specs.Manifests.{with_contents}
use Rattle.rhd_resolve.proofs.loading.put_value.Given as goal

abbrev pub invariant-loop-name : goal.invariant-loop-name
invariant-loop-name l = l.target ≡ with_contents (map (λ name. (name, l.entry.value)) (take l.name-index l.name-items)) [] l.initial.target
