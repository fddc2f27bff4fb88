use Rattle.std.proofs.Common.{◌≡◌, [], take}
use Rattle.rhd_module.specs.Manifests.{with_contents}
use Rattle.rhd_resolve.specs.Loading.{named_values}
use Rattle.rhd_resolve.proofs.loading.put_scope.Given as goal

abbrev pub invariant-loop-entry : goal.invariant-loop-entry
invariant-loop-entry l = l.target ≡ with_contents (named_values (take l.entry-index l.scope)) [] l.initial.target
