-- What contracts see of the environments of a session.
use Rattle.std.specs.Prelude.{ℕ, List, ◌++◌, ◌∷◌, [], length}
use Rattle.rhd_hash.specs.declared.mixer.Seeds.{Seeds}
use Rattle.rhd_func.specs.declared.access.EnvId.{EnvId}
use Rattle.rhd_resolve.specs.declared.environs.EncapsulatedEnviron.{EncapsulatedEnviron}

-- the seeds of the session's modules, how many natives and iterators it has, and the environments by number
pub record Envs : Type 0 where
  pub seeds : Seeds
  pub natives : ℕ
  pub iterators : ℕ
  pub items : List EncapsulatedEnviron

-- the number that the next environment has
abbrev pub next_env : Envs → EnvId
next_env envs = record { 0 = length envs.items }

-- one environment more
abbrev pub with_env : EncapsulatedEnviron → Envs → Envs
with_env env envs = record envs { items = envs.items ++ env ∷ [] }
