-- What follows from how the module of a loaded script is made, or refused.
use Rattle.std.proofs.Common.{◌≡◌, List, inl, inr}
use Rattle.std.specs.Prelude.{◌⊎◌, Result, Ok, Err, IfOk, IfErr, OnErr}
use Rattle.rhd_hash.specs.declared.key.Key.{Key}
use Rattle.rhd_hash.specs.declared.mixer.Seeds.{Seeds}
use Rattle.rhd_hash.specs.Table.{Clashing, Clashes}
use Rattle.rhd_manifest.specs.Manifest.{ManifestLists}
use Rattle.rhd_module.specs.Tree.{ModuleTree}
use Rattle.rhd_resolve.specs.declared.fault.ResolveFault.{ResolveFault}
use Rattle.rhd_resolve.specs.declared.fault.ResolveFault.TheVariants as refusal
use Rattle.rhd_resolve.specs.declared.loaded.LoadedScript.{LoadedScript}
use Rattle.rhd_resolve.specs.Environs.{Envs}
use Rattle.rhd_resolve.specs.Faults.{IsCollision}
use Rattle.rhd_resolve.specs.File.{Makes}
use Rattle.rhd_resolve.specs.Sessions.{seen, IsLoaded, IsGiven, Adds, adds_nothing}
use Rattle.rhd_resolve.proofs.LoadedFits.{loads_given, loads_adds}

clash_of : (seeds : Seeds) (a b c : List Key) (held other : Key) → Clashing seeds a held other ⊎ Clashing seeds b held other ⊎ Clashing seeds c held other → Clashes seeds held other
clash_of seeds a b c held other (inl h) = h.clash
clash_of seeds a b c held other (inr (inl h)) = h.clash
clash_of seeds a b c held other (inr (inr h)) = h.clash

pub makes_given : (manifests : List ManifestLists) (l : LoadedScript) (old new : Envs) (r : Result ModuleTree ResolveFault) → IsLoaded (seen manifests old) l → Makes l old r new → IfOk r (IsGiven (seen manifests new))
makes_given manifests l old new (Ok m) given is = loads_given manifests l old new (Ok m) given is
makes_given manifests l old new (Err fault) given is = tt

pub makes_adds : (manifests : List ManifestLists) (l : LoadedScript) (old new : Envs) (r : Result ModuleTree ResolveFault) → IsLoaded (seen manifests old) l → Makes l old r new → Adds manifests old new
makes_adds manifests l old new (Ok m) given is = loads_adds manifests l old new (Ok m) given is
makes_adds manifests l old new (Err (refusal.HashCollision held other)) given is = adds_nothing is.1
makes_adds manifests l old new (Err refusal.OutOfMemory) given is = adds_nothing is
makes_adds manifests l old new (Err (refusal.Fault fault)) given is = absurd is

pub makes_none : (l : LoadedScript) (old new : Envs) (r : Result ModuleTree ResolveFault) → Makes l old r new → OnErr r (new ≡ old)
makes_none l old new (Ok m) is = tt
makes_none l old new (Err (refusal.HashCollision held other)) is = is.1
makes_none l old new (Err refusal.OutOfMemory) is = is
makes_none l old new (Err (refusal.Fault fault)) is = absurd is

pub makes_collision : (l : LoadedScript) (old new : Envs) (r : Result ModuleTree ResolveFault) → Makes l old r new → IfErr r (IsCollision old.seeds)
makes_collision l old new (Ok m) is = tt
makes_collision l old new (Err (refusal.HashCollision held other)) is = clash_of old.seeds _ _ _ held other is.0
makes_collision l old new (Err refusal.OutOfMemory) is = tt
makes_collision l old new (Err (refusal.Fault fault)) is = absurd is
