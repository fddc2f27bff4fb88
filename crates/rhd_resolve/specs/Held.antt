-- Whether the environments that modules name are held.
use Rattle.std.specs.Prelude.{ℕ, Bool, true, nat_lt, ◌&&◌, Option, None, Some}
use Rattle.std.specs.List.{list_all}
use Rattle.rhd_func.specs.declared.access.EnvId.{EnvId}
use Rattle.rhd_func.specs.declared.func.RhaiFunc.{RhaiFunc}
use Rattle.rhd_func.specs.declared.func.RhaiFunc.TheVariants.{Pure, Method, Iterator, Plugin, StaticPlugin, Script}
use Rattle.rhd_module.specs.Tree.{ModuleTree, Lists, Subs, no_subs, sub}

-- an environment, if there is one, has a number below this one
abbrev pub env_below : ℕ → Option EnvId → Bool
env_below envs None = true
env_below envs (Some env) = nat_lt env.0 envs

-- so has the one in which a function runs; natives run in none
abbrev pub env_held : ℕ → RhaiFunc → Bool
env_held envs (Pure id context pure volatile) = true
env_held envs (Method id context pure volatile) = true
env_held envs (Iterator id) = true
env_held envs (Plugin id) = true
env_held envs (StaticPlugin id) = true
env_held envs (Script def env) = env_below envs env

-- those of the declarations of these lists
abbrev pub own_envs_held : ℕ → Lists → Bool
own_envs_held envs own = list_all (λ p. env_held envs p.1.func) own.eager

-- those of sub-modules, and of all below them
abbrev pub envs_held_below : ℕ → Subs → Bool
envs_held_below envs no_subs = true
envs_held_below envs (sub name own below later) = own_envs_held envs own && (envs_held_below envs below && envs_held_below envs later)

-- those of a module and of all below it
abbrev pub envs_held : ℕ → ModuleTree → Bool
envs_held envs m = own_envs_held envs m.own && envs_held_below envs m.subs
