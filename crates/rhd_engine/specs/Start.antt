-- A new engine, and a new state.
use Rattle.std.specs.Prelude.{List, [], ◌∷◌, None}
use Rattle.rhd_value.specs.Tree.{unit}
use Rattle.rhd_value.specs.Kinds.{plain}
use Rattle.rhd_value.specs.declared.tag.FnId.{FnId}
use Rattle.rhd_hash.specs.declared.mixer.Seeds.{Seeds}
use Rattle.rhd_func.specs.Natives.{NativeInfo}
use Rattle.rhd_manifest.specs.Manifest.{ManifestLists}
use Rattle.rhd_module.specs.Tree.{empty_module}
use Rattle.rhd_engine.specs.Engine.{EngineLists, Frame, Operator}
use Rattle.rhd_engine.specs.declared.limits.Limits.{Limits}
use Rattle.rhd_engine.specs.declared.limits.Printers.{Printers}

-- one empty global module, and no static one
abbrev pub start_lists : List NativeInfo → List ManifestLists → Seeds → Limits → List (Operator × FnId) → Printers → EngineLists
start_lists natives table seeds limits builtins printers = record {
  globals = empty_module seeds ∷ [];
  statics = [];
  natives = natives;
  iterators = 0;
  manifests = table;
  builtins = builtins;
  seeds = seeds;
  limits = limits;
  printers = printers;
}

-- no library, no import, no source, no open call, the tag unit
abbrev pub start_frame : Frame
start_frame = record { lib = []; imports = []; source = None; level = 0; tag = plain unit }
