-- What contracts see of an engine.
use Rattle.rhd_func.specs.Natives.{NativeInfo}
use Rattle.rhd_func.specs.Infos.{infos_of}
use Rattle.rhd_engine.specs.declared.engine.Engine.{Engine}
use Rattle.rhd_engine.specs.Engine.{EngineLists}

-- its lists, by what its natives say of themselves
unfoldable pub lists_of : {X : Type 0} {F : X → Type 0} → ((x : X) × F x → NativeInfo) → Engine X F → EngineLists
lists_of info engine = record {
  globals = engine.globals;
  statics = engine.statics;
  natives = infos_of info engine.natives;
  iterators = 0;
  manifests = engine.manifests;
  builtins = engine.builtins;
  seeds = engine.seeds;
  limits = engine.limits;
  printers = engine.printers;
}
