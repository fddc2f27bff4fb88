-- WHAT A SESSION TEXT SAYS, part by part: what each part adds, and where it may stand.
use Rattle.std.specs.Prelude.{◌-◌, ◌&&◌, ◌==◌, nat_le, nat_lt, not, Bool, true, false, List, [], ◌∷◌, ◌++◌, length, slice_set, Option, Some, None, if◌then◌else◌}
use Rattle.std.specs.Option.{is_none, option_map}
use Rattle.std.specs.List.{slice_get}
use Rattle.rhd_value.specs.Tree.{Bytes, Tree}
use Rattle.rhd_value.specs.Entries.{put}
use Rattle.rhd_value.specs.declared.tag.FnId.{FnId}
use Rattle.rhd_files.specs.Files.{with_text}
use Rattle.rhd_hash.specs.declared.mixer.Seeds.{Seeds}
use Rattle.rhd_func.specs.Natives.{NativeInfo}
use Rattle.rhd_func.specs.declared.access.FnNamespace.{FnNamespace}
use Rattle.rhd_func.specs.declared.access.ManifestId.{ManifestId}
use Rattle.rhd_manifest.specs.Entry.{entry_of}
use Rattle.rhd_manifest.specs.Manifest.{ManifestLists, no_lists, manifest_at, with_manifest, with_entry, with_sub, with_var, with_type}
use Rattle.rhd_engine.specs.declared.builtins.Operator.{Operator}
use Rattle.rhd_engine.specs.Operators.{put_builtin}
use Rattle.rhd_call.specs.declared.command.Command.{Command}
use Rattle.rhd_engine.specs.declared.limits.Limits.{Limits}
use Rattle.rhd_engine.specs.declared.limits.Printers.{Printers}
use Rattle.rhd_plan.specs.declared.session.SessionText.{SessionText}
use Rattle.rhd_plan.specs.declared.body.CallPlan.{CallPlan}
use Rattle.rhd_plan.specs.declared.body.BodyEnd.{BodyEnd}
use Rattle.rhd_plan.specs.declared.body.BodyPlan.{BodyPlan}
use Rattle.rhd_syntax.specs.declared.printers.Printer.{Printer}
use Rattle.rhd_syntax.specs.declared.printers.Printer.TheVariants as printers
use Rattle.rhd_plan.specs.declared.part.Part.{Part}
use Rattle.rhd_plan.specs.declared.part.Part.TheVariants as parts
use Rattle.rhd_syntax.specs.Reading.{◌>>=◌}

-- what a text without lines says
abbrev pub empty_text : SessionText
empty_text = record { seeds = None; limits = None; printers = record { print = false; debug = false }; builtins = []; hosts = []; files = []; manifests = []; bodies = []; commands = [] }

-- whether headers may still stand: no command has come
abbrev pub takes_headers : SessionText → Bool
takes_headers t = length t.commands == 0

-- seeds are set once at most
unfoldable pub with_seeds : SessionText → Seeds → Option SessionText
with_seeds t seeds = if is_none t.seeds then Some (record t { seeds = Some seeds }) else None

-- limits are set once at most, and no level is above 1,000
unfoldable pub with_limits : SessionText → Limits → Option SessionText
with_limits t limits = if is_none t.limits && nat_le limits.level 1000 then Some (record t { limits = Some limits }) else None

-- one printer more is set; again is allowed
abbrev pub printers_with : Printer → Printers → Printers
printers_with printers.Print p = record p { print = true }
printers_with printers.Debug p = record p { debug = true }

unfoldable pub with_printer : SessionText → Printer → SessionText
with_printer t printer = record t { printers = printers_with printer t.printers }

-- whether the native of a number is one of these
abbrev pub is_held : List NativeInfo → FnId → Bool
is_held natives id = nat_lt id.0 (length natives)

-- the function of an operator between two kinds, in the place of an earlier one; its native is held
unfoldable pub with_builtin : List NativeInfo → SessionText → Operator → FnId → Option SessionText
with_builtin natives t operator id = if is_held natives id then Some (record t { builtins = put_builtin operator id t.builtins }) else None

-- what the host answers for a name, in the place of an earlier answer
unfoldable pub with_host : SessionText → Bytes → Tree → SessionText
with_host t name value = record t { hosts = put name value t.hosts }

-- the text of the file at a path, in the place of an earlier text
unfoldable pub with_file : SessionText → Bytes → Bytes → SessionText
with_file t path text = record t { files = with_text path text t.files }

-- the number of the latest manifest, where there is one
unfoldable pub latest_manifest : SessionText → Option ManifestId
latest_manifest t = if length t.manifests == 0 then None else Some (record { 0 = length t.manifests - 1 })

-- the latest manifest changed; none where there is none
unfoldable pub in_manifest : (ManifestLists → ManifestLists) → SessionText → Option SessionText
in_manifest change t = option_map (λ id. record t { manifests = with_manifest id (change (manifest_at t.manifests id)) t.manifests }) (latest_manifest t)

-- the next manifest begins
unfoldable pub with_new_manifest : SessionText → SessionText
with_new_manifest t = record t { manifests = t.manifests ++ no_lists ∷ [] }

-- the latest manifest lists a native under a name, with the types that it has; it is held
unfoldable pub with_manifest_entry : List NativeInfo → SessionText → Bytes → FnId → FnNamespace → Option SessionText
with_manifest_entry natives t name id namespace = if is_held natives id then in_manifest (with_entry (entry_of natives name namespace id)) t else None

-- the latest manifest gets a sub-manifest, of a lower number than it
unfoldable pub with_manifest_sub : SessionText → Bytes → ManifestId → Option SessionText
with_manifest_sub t name sub = do
  id ← latest_manifest t
  if nat_lt sub.0 id.0 then in_manifest (with_sub name sub) t else None

-- the latest manifest gets a variable
unfoldable pub with_manifest_var : SessionText → Bytes → Tree → Option SessionText
with_manifest_var t name value = in_manifest (with_var name value) t

-- the latest manifest gets a custom type: the name of a type, and the name by which it is shown
unfoldable pub with_manifest_type : SessionText → Bytes → Bytes → Option SessionText
with_manifest_type t type_name display = in_manifest (with_type type_name display) t

-- a body without calls and end
abbrev pub new_body : BodyPlan
new_body = record { calls = []; end = None }

-- the body with a call more, where it has no end yet
unfoldable pub stepped : CallPlan → BodyPlan → Option BodyPlan
stepped call b = if is_none b.end then Some (record b { calls = b.calls ++ call ∷ [] }) else None

-- the body with its end, where it has none yet
unfoldable pub ended : BodyEnd → BodyPlan → Option BodyPlan
ended end b = if is_none b.end then Some (record b { end = Some end }) else None

-- the bodies with the latest one changed; none where there is none, or where it may not be changed so
unfoldable pub in_latest : (BodyPlan → Option BodyPlan) → List BodyPlan → Option (List BodyPlan)
in_latest change bodies = do
  b ← slice_get bodies (length bodies - 1)
  c ← change b
  Some (slice_set bodies (length bodies - 1) c)

-- the next body begins
unfoldable pub with_body : SessionText → SessionText
with_body t = record t { bodies = t.bodies ++ new_body ∷ [] }

-- the latest body makes a call more
unfoldable pub with_call : SessionText → CallPlan → Option SessionText
with_call t call = do
  bodies ← in_latest (stepped call) t.bodies
  Some (record t { bodies = bodies })

-- the latest body ends
unfoldable pub with_end : SessionText → BodyEnd → Option SessionText
with_end t end = do
  bodies ← in_latest (ended end) t.bodies
  Some (record t { bodies = bodies })

-- one thing more to do
unfoldable pub with_command : SessionText → Command → SessionText
with_command t c = record t { commands = t.commands ++ c ∷ [] }

-- what is said with a part more; none where the part is not allowed
abbrev pub added : List NativeInfo → SessionText → Part → Option SessionText
added natives t (parts.Seeds seeds) = with_seeds t seeds
added natives t (parts.Limits limits) = with_limits t limits
added natives t (parts.Printer printer) = Some (with_printer t printer)
added natives t (parts.Builtin op left right id) = with_builtin natives t (record { token = op; left = left; right = right }) id
added natives t (parts.Host name value) = Some (with_host t name value)
added natives t (parts.File path text) = Some (with_file t path text)
added natives t parts.Manifest = Some (with_new_manifest t)
added natives t (parts.Entry name id namespace) = with_manifest_entry natives t name id namespace
added natives t (parts.Sub name sub) = with_manifest_sub t name sub
added natives t (parts.ManifestVar name value) = with_manifest_var t name value
added natives t (parts.ManifestType type_name display) = with_manifest_type t type_name display
added natives t parts.Body = Some (with_body t)
added natives t (parts.Do call) = with_call t call
added natives t (parts.End end) = with_end t end
added natives t (parts.Command c) = Some (with_command t c)

-- a header is any part but a command
abbrev pub is_header : Part → Bool
is_header (parts.Command c) = false
is_header _ = true

-- the same where headers stand before commands; none where the part may not stand there
unfoldable pub with_part : List NativeInfo → SessionText → Part → Option SessionText
with_part natives t p = if is_header p && not (takes_headers t) then None else added natives t p
