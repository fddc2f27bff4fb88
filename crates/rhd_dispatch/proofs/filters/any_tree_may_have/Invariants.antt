use Rattle.std.proofs.Common.{◌≡◌, drop}
use Rattle.rhd_hash.specs.Keys.{key_name, key_params}
use Rattle.rhd_dispatch.specs.Walks.{any_may_have}
use Rattle.rhd_dispatch.proofs.filters.any_tree_may_have.Given as goal

abbrev pub invariant-loop-name : goal.invariant-loop-name
invariant-loop-name l = any_may_have (key_name l.key) (key_params l.key) (drop l._name-index l.modules) ≡ any_may_have (key_name l.key) (key_params l.key) l.modules
