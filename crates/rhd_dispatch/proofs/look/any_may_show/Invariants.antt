use Rattle.std.proofs.Common.{◌≡◌, drop}
use Rattle.rhd_hash.specs.Keys.{key_name, key_params, key_types}
use Rattle.rhd_dispatch.specs.Walks.{any_may_show}
use Rattle.rhd_dispatch.proofs.look.any_may_show.Given as goal

abbrev pub invariant-loop-shared : goal.invariant-loop-shared
invariant-loop-shared l = any_may_show l.place (key_name l.key) (key_params l.key) (key_types l.key) (drop l.shared-index l.modules) ≡ any_may_show l.place (key_name l.key) (key_params l.key) (key_types l.key) l.modules
