-- What a resolver is asked, and when its answer is free.
use Rattle.std.specs.Prelude.{◌≡◌, ℕ, ◌≤◌, List, Option, Some, None, Result, Ok, Err, ⊤}
use Rattle.rhd_value.specs.Tree.{Bytes}
use Rattle.rhd_value.specs.declared.tag.Position.{Position}
use Rattle.rhd_manifest.specs.Manifest.{ManifestLists}
use Rattle.rhd_module.specs.Tree.{ModuleTree}
use Rattle.rhd_resolve.specs.declared.fault.ResolveFault.{ResolveFault}
use Rattle.rhd_resolve.specs.declared.fault.ResolveFault.TheVariants as refusal
use Rattle.rhd_resolve.specs.declared.loaded.LoadedScript.{LoadedScript}
use Rattle.rhd_resolve.specs.Environs.{Envs}
use Rattle.rhd_resolve.specs.Sessions.{Seen, with_envs}

-- the table of manifests, the environments, the source that asks, if there is one, the path, and where it stands
pub record Asked : Type 0 where
  pub manifests : List ManifestLists
  pub envs : Envs
  pub source : Option Bytes
  pub path : Bytes
  pub pos : Position

abbrev pub asked : List ManifestLists → Envs → Option Bytes → Bytes → Position → Asked
asked manifests envs source path pos = record { manifests = manifests; envs = envs; source = source; path = path; pos = pos }

-- which answers a call may have, with the environments and the state that they leave
abbrev pub Allows : Type 1
Allows = Asked → Result ModuleTree ResolveFault → Envs → List ℕ → Type 0

abbrev pub AllowsScript : Type 1
AllowsScript = Asked → Option (Result LoadedScript ResolveFault) → List ℕ → Type 0

-- it fits this session, and still when environments were added
pub record Fits (fits : Seen → Type 0) (s : Seen) : Type 0 where
  pub later : (n : ℕ) → s.envs ≤ n → fits (with_envs s n)

-- `resolve_raw` may do what `resolve` may
pub data Either (allows also : Allows) (a : Asked) (r : Result ModuleTree ResolveFault) (e : Envs) (t : List ℕ) : Type 0 where
  resolved : allows a r e t → Either allows also a r e t
  besides : also a r e t → Either allows also a r e t

-- `resolve_ast` may give nothing
pub data EitherScript (before : List ℕ) (also : AllowsScript) (a : Asked) (r : Option (Result LoadedScript ResolveFault)) (t : List ℕ) : Type 0 where
  no_script : r ≡ None → t ≡ before → EitherScript before also a r t
  script : also a r t → EitherScript before also a r t

-- want of memory is the one free answer
abbrev pub IsSaid : {A : Type 0} → Result A ResolveFault → Type 0
IsSaid (Ok x) = ⊤
IsSaid (Err (refusal.Fault f)) = ⊤
IsSaid (Err (refusal.HashCollision held new)) = ⊤
IsSaid (Err refusal.OutOfMemory) = ⊥

abbrev pub UnlessNoMemory : {A : Type 0} → Result A ResolveFault → Type 0 → Type 0
UnlessNoMemory r P = IsSaid r → P

abbrev pub IsSaidScript : {A : Type 0} → Option (Result A ResolveFault) → Type 0
IsSaidScript None = ⊤
IsSaidScript (Some r) = IsSaid r

abbrev pub UnlessNoMemoryScript : {A : Type 0} → Option (Result A ResolveFault) → Type 0 → Type 0
UnlessNoMemoryScript r P = IsSaidScript r → P
