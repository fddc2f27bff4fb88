-- An engine and the state of a run, as plain lists.
use Rattle.std.specs.Prelude.{◌≡◌, ℕ, List}
use Rattle.rhd_value.specs.declared.tag.FnId.{FnId}
use Rattle.rhd_hash.specs.declared.mixer.Seeds.{Seeds}
use Rattle.rhd_func.specs.Natives.{NativeInfo}
use Rattle.rhd_manifest.specs.Manifest.{ManifestLists}
use Rattle.rhd_module.specs.Tree.{ModuleTree}
pub use Rattle.rhd_layers.specs.Lists.{Imports}
pub use Rattle.rhd_engine.specs.declared.builtins.Operator.{Operator}
use Rattle.rhd_engine.specs.declared.limits.Limits.{Limits}
use Rattle.rhd_engine.specs.declared.limits.Printers.{Printers}
use Rattle.rhd_engine.specs.declared.state.GlobalRuntimeState.{GlobalRuntimeState}

pub record EngineLists : Type 0 where
  pub globals : List ModuleTree  -- whose functions all calls find; registration goes into the first
  pub statics : Imports  -- in ascending order of name
  pub natives : List NativeInfo  -- by number
  pub iterators : ℕ  -- how many functions that iterate are held; none yet
  pub manifests : List ManifestLists  -- by number
  pub builtins : List (Operator × FnId)  -- the functions of operators between two kinds
  pub seeds : Seeds  -- under which its modules hash their keys
  pub limits : Limits
  pub printers : Printers

-- all but the global modules stays
abbrev pub GlobalsAlone : EngineLists → EngineLists → Type 0
GlobalsAlone old new = new ≡ record old { globals = new.globals }

-- all but the static modules stays
abbrev pub StaticsAlone : EngineLists → EngineLists → Type 0
StaticsAlone old new = new ≡ record old { statics = new.statics }

-- where a call is made: libraries and imports, oldest first, the source, the level and the tag
abbrev pub Frame : Type 0
Frame = GlobalRuntimeState
