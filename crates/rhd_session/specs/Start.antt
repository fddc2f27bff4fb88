-- A new session.
use Rattle.std.specs.Prelude.{ℕ, List, [], None}
use Rattle.rhd_value.specs.Tree.{Bytes}
use Rattle.rhd_value.specs.declared.tag.FnId.{FnId}
use Rattle.rhd_hash.specs.declared.mixer.Seeds.{Seeds}
use Rattle.rhd_func.specs.Natives.{NativeInfo}
use Rattle.rhd_manifest.specs.Manifest.{ManifestLists}
use Rattle.rhd_engine.specs.declared.builtins.Operator.{Operator}
use Rattle.rhd_engine.specs.Start.{start_lists, start_frame}
use Rattle.rhd_engine.specs.declared.limits.Limits.{Limits}
use Rattle.rhd_engine.specs.declared.limits.Printers.{Printers}
use Rattle.rhd_machine.specs.World.{World, Moment, moment}
use Rattle.rhd_resolve.specs.File.{FileState, script_extension}
use Rattle.rhd_session.specs.State.{SessionState}

-- a new engine, no modules and no environments; its frame is that of a new state
abbrev pub start_world : List NativeInfo → List ManifestLists → Seeds → Limits → List (Operator × FnId) → Printers → World
start_world natives table seeds limits builtins printers = record { engine = start_lists natives table seeds limits builtins printers; modules = []; environs = [] }

-- no call is begun
abbrev pub start_moment : {H B : Type 0} → H → B → Moment H B
start_moment host bodies = moment 0 host bodies

-- the file resolver without a base path, whose files are these; so many reads failed before
abbrev pub start_files : List (Bytes × Bytes) → ℕ → FileState
start_files texts faults = record { base_path = None; extension = script_extension; texts = texts; faults = faults }

-- a new session over this world
abbrev pub start_state : World → FileState → SessionState
start_state w files = record { world = w; frame = start_frame; files = files }
