-- What a resolver sees of a session, and which modules may be given to it.
use Rattle.std.specs.Prelude.{◌≡◌, ℕ, Bool, true, nat_lt, List, [], ◌∷◌, ◌++◌, length, ⊤}
use Rattle.std.specs.List.{list_all, AllByRecursion}
use Rattle.rhd_hash.specs.declared.mixer.Seeds.{Seeds}
use Rattle.rhd_func.specs.declared.access.ManifestId.{ManifestId}
use Rattle.rhd_manifest.specs.Entry.{Entry}
use Rattle.rhd_manifest.specs.Manifest.{ManifestLists}
use Rattle.rhd_manifest.specs.Rank.{rank}
use Rattle.rhd_module.specs.Tree.{ModuleTree, Lists, Subs, no_subs, sub}
use Rattle.rhd_engine.specs.Held.{names_held}
use Rattle.rhd_layers.specs.Lists.{Imports}
use Rattle.rhd_resolve.specs.declared.environs.EncapsulatedEnviron.{EncapsulatedEnviron}
use Rattle.rhd_resolve.specs.declared.loaded.LoadedScript.{LoadedScript}
use Rattle.rhd_resolve.specs.Environs.{Envs, with_env}
use Rattle.rhd_resolve.specs.Held.{envs_held}

-- the seeds of a session's modules, how many natives and iterators it has, its table of manifests, and how many environments
pub record Seen : Type 0 where
  pub seeds : Seeds
  pub natives : ℕ
  pub iterators : ℕ
  pub manifests : List ManifestLists
  pub envs : ℕ

abbrev pub seen : List ManifestLists → Envs → Seen
seen manifests e = record { seeds = e.seeds; natives = e.natives; iterators = e.iterators; manifests = manifests; envs = length e.items }

-- the same with so many environments
abbrev pub with_envs : Seen → ℕ → Seen
with_envs s n = record s { envs = n }

-- this holds of the lists of sub-modules, and of those of all below them
abbrev pub HoldsBelow : (Lists → Type 0) → Subs → Type 0
HoldsBelow P no_subs = ⊤
HoldsBelow P (sub name own below later) = P own × HoldsBelow P below × HoldsBelow P later

-- and of those of a module and of all below it
abbrev pub HoldsIn : (Lists → Type 0) → ModuleTree → Type 0
HoldsIn P m = P m.own × HoldsBelow P m.subs

-- what manifests of a table list, each flattened or not: a later one goes before an earlier
abbrev pub listed_by : List ManifestLists → List (ManifestId × Bool) → List Entry
listed_by table [] = []
listed_by table (m ∷ ms) = listed_by table ms ++ rank table m.0 m.1

-- lists with these seeds; their iterators and manifests are held, and they list what their manifests do
pub record IsHeld (seeds : Seeds) (iterators : ℕ) (table : List ManifestLists) (own : Lists) : Type 0 where
  pub own_seeds : own.seeds ≡ seeds
  pub iterators_held : list_all (λ i. nat_lt i.1.0 iterators) own.iterators ≡ true
  pub manifests_held : list_all (λ m. nat_lt m.0.0 (length table)) own.manifests ≡ true
  pub listed : own.listed ≡ listed_by table own.manifests

-- a module that was made in this session: all that it and those below it name is held
pub record IsMade (s : Seen) (m : ModuleTree) : Type 0 where
  pub natives : names_held s.natives m ≡ true
  pub envs : envs_held s.envs m ≡ true
  pub lists : HoldsIn (IsHeld s.seeds s.iterators s.manifests) m

-- one that is indexed too
pub record IsGiven (s : Seen) (m : ModuleTree) : Type 0 where
  pub made : IsMade s m
  pub indexed : m.own.indexed ≡ true

-- each of some modules with names may be given
abbrev pub AreGiven : Seen → Imports → Type 0
AreGiven s imports = AllByRecursion (λ i. IsGiven s i.1) imports

-- what a loader promises of a script: each module that it imports may be given
abbrev pub IsLoaded : Seen → LoadedScript → Type 0
IsLoaded s l = AreGiven s l.imports

-- an environment that was made in this session
pub record IsMadeEnv (s : Seen) (e : EncapsulatedEnviron) : Type 0 where
  pub lib : IsMade s e.lib
  pub imports : AreGiven s e.imports

-- nothing was added, or one environment at the end
pub data Adds (manifests : List ManifestLists) (old : Envs) : Envs → Type 0 where
  adds_nothing : {new : Envs} → new ≡ old → Adds manifests old new
  adds_one : {new : Envs} {e : EncapsulatedEnviron} → new ≡ with_env e old → IsMadeEnv (seen manifests new) e → Adds manifests old new
