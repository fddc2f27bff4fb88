-- How the code carries out the commands that declare something: the machine's own words. `Declares` says what they answer and leave.
use Rattle.std.specs.Prelude.{◌≡◌, Bool, true, false, not, nat_lt, List, [], ◌∷◌, length, Option, None, Some, Result, Ok, Err, is_err}
use Rattle.std.specs.List.{AllByRecursion, Contains}
use Rattle.rhd_value.specs.Firsts.{first_some, where_holds}
use Rattle.rhd_value.specs.declared.tag.FnId.{FnId}
use Rattle.rhd_value.specs.declared.memory.OutOfMemory.{OutOfMemory}
use Rattle.rhd_hash.specs.Table.{Clashing}
use Rattle.rhd_func.specs.Natives.{NativeInfo}
use Rattle.rhd_func.specs.Funcs.{native_of, iter_fn_of}
use Rattle.rhd_func.specs.declared.access.IterId.{IterId}
use Rattle.rhd_func.specs.declared.access.ManifestId.{ManifestId}
use Rattle.rhd_decl.specs.declared.fault.DeclFault.{DeclFault}
use Rattle.rhd_decl.specs.declared.fault.DeclFault.TheVariants.{HashCollision, UnknownNumber, OutOfMemory as no_memory}
use Rattle.rhd_manifest.specs.Manifest.{ManifestLists}
use Rattle.rhd_module.specs.Tree.{ModuleTree}
use Rattle.rhd_module.specs.Algebra.{combined_with, flattened_with, filled_with, merged_with, merged_all}
use Rattle.rhd_decl.specs.Registration.{unheld}
use Rattle.rhd_engine.specs.Engine.{Frame}
use Rattle.rhd_layers.specs.Lists.{with_last}
use Rattle.rhd_call.specs.declared.command.Command.{Command}
use Rattle.rhd_call.specs.declared.command.Command.TheVariants as commands
use Rattle.rhd_call.specs.declared.command.ModuleId.{ModuleId}
use Rattle.rhd_call.specs.declared.reply.Reply.{Reply}
use Rattle.rhd_call.specs.declared.reply.Reply.TheVariants.{Done, Fault, Refused}
use Rattle.rhd_resolve.specs.declared.fault.ResolveFault.{ResolveFault}
use Rattle.rhd_resolve.specs.declared.fault.ResolveFault.TheVariants as refusal
use Rattle.rhd_machine.specs.World.{World}
use Rattle.rhd_session.specs.Commands.{Keyed, but_last, with_made, without_keys, module_change, not_callable, indexer_not_allowed}
use Rattle.rhd_session.specs.Answered.{Declares, NoClash}
use Rattle.rhd_session.specs.declared.joining.Join.{Join}
use Rattle.rhd_session.specs.declared.joining.Join.TheVariants as joins

-- the native that a command registers in a module
abbrev pub native_in : Command → Option FnId
native_in (commands.Native m reg id) = Some id
native_in (commands.RawNative m name namespace types func) = native_of func
native_in command = None

-- the manifest that a command adds to a module
abbrev pub manifest_in : Command → Option ManifestId
manifest_in (commands.CombineManifest m id) = Some id
manifest_in command = None

-- its number isn't held
abbrev pub unheld_manifest : List ManifestLists → Option ManifestId → Option DeclFault
unheld_manifest table None = None
unheld_manifest table (Some id) = where_holds (not (nat_lt id.0 (length table))) (UnknownNumber id.0 (length table))

-- the function that iterates that a command would register in a module
abbrev pub iterator_in : Command → Option IterId
iterator_in (commands.RawNative m name namespace types func) = iter_fn_of func
iterator_in command = None

-- why a command doesn't change a module that is held, but for a collision
abbrev pub module_cause : List NativeInfo → List ManifestLists → Command → Option DeclFault
module_cause natives table command = first_some (unheld natives (native_in command) ∷ unheld_manifest table (manifest_in command) ∷ not_callable command ∷ indexer_not_allowed natives table command ∷ [])

-- what changing a module answers, and the module that it leaves
abbrev pub ChangesModule : List NativeInfo → List ManifestLists → Command → ModuleTree → Result (Unit {0}) DeclFault → ModuleTree → Type 0
ChangesModule natives table command old (Ok u) new = (module_cause natives table command ≡ None) × AllByRecursion NoClash (module_change natives table command old).tables × (new ≡ (module_change natives table command old).tree)
ChangesModule natives table command old (Err no_memory) new = new ≡ old
ChangesModule natives table command old (Err (HashCollision held other)) new =
    (module_cause natives table command ≡ None) × ((keyed : Keyed) × Contains (module_change natives table command old).tables keyed × Clashing keyed.seeds keyed.keys held other) × (new ≡ old)
ChangesModule natives table command old (Err fault) new = (module_cause natives table command ≡ Some fault) × (new ≡ old)

-- what a command that answers nothing else than that it is done, comes to
abbrev pub Goes : World → Frame → Command → Result (Unit {0}) DeclFault → World → Frame → Type 0
Goes w f command (Ok u) w2 f2 = Declares w f command Done w2 f2
Goes w f command (Err no_memory) w2 f2 = (w2 ≡ w) × (f2 ≡ f)
Goes w f command (Err fault) w2 f2 = Declares w f command (Refused fault) w2 f2

-- a module that is made for a command, and is then the last, is what it answers and leaves
abbrev pub MadeFor : World → Frame → Command → ModuleTree → Type 0
MadeFor w f command m = let c = with_made w f (without_keys m) in Declares w f command c.reply c.world f

-- the command changes no numbered module by itself, and answers nothing but that it is done
abbrev pub is_told : Command → Bool
is_told (commands.SubModule m name sub) = true
is_told (commands.Combine m other) = true
is_told (commands.CombineFlatten m other) = true
is_told (commands.Fill m other) = true
is_told (commands.Merge m other) = true
is_told (commands.RegisterFn name id) = true
is_told (commands.RegisterRaw name types id) = true
is_told (commands.RegisterType kind display) = true
is_told (commands.GlobalModule m) = true
is_told (commands.StaticModule name m) = true
is_told (commands.PushLib m) = true
is_told commands.PopLib = true
is_told (commands.PushImport name m) = true
is_told commands.PopImport = true
is_told (commands.SetSource source) = true
is_told (commands.SetTag tag) = true
is_told command = false

-- the command that joins one module with another so
abbrev pub join_command : Join → ModuleId → ModuleId → Command
join_command joins.Combine m other = commands.Combine m other
join_command joins.CombineFlatten m other = commands.CombineFlatten m other
join_command joins.Fill m other = commands.Fill m other
join_command joins.Merge m other = commands.Merge m other

-- the module that this leaves
abbrev pub joined_by : Join → ModuleTree → ModuleTree → ModuleTree
joined_by joins.Combine other m = combined_with other m
joined_by joins.CombineFlatten other m = flattened_with other m
joined_by joins.Fill other m = filled_with other m
joined_by joins.Merge other m = merged_with (λ d. true) other m

-- and the modules that it changes and makes
abbrev pub all_joined_by : Join → ModuleTree → ModuleTree → List ModuleTree
all_joined_by joins.Merge other m = merged_all (λ d. true) other m
all_joined_by join other m = joined_by join other m ∷ []

-- the reply that a resolver's refusal is; want of memory is none
abbrev pub IsRefusal : ResolveFault → Result Reply OutOfMemory → Type 0
IsRefusal (refusal.Fault fault) r = r ≡ Ok (Fault fault)
IsRefusal (refusal.HashCollision held new) r = r ≡ Ok (Refused (HashCollision held new))
IsRefusal refusal.OutOfMemory r = is_err r ≡ true

-- what an import comes to whose place was made last among the imports: the resolver's module stands there, or the place is taken off again
abbrev pub EndsImport : Frame → Result ModuleTree ResolveFault → Result Reply OutOfMemory → Frame → Type 0
EndsImport f (Ok m) r f2 = (r ≡ Ok Done) × (f2 ≡ record f { imports = with_last m f.imports })
EndsImport f (Err fault) r f2 = IsRefusal fault r × (f2 ≡ record f { imports = but_last f.imports })

-- the reply that such an answer is; want of memory is none
abbrev pub IsReply : Result (Unit {0}) DeclFault → Result Reply OutOfMemory → Type 0
IsReply (Ok u) (Ok reply) = reply ≡ Done
IsReply (Ok u) (Err e) = ⊥
IsReply (Err no_memory) (Ok reply) = ⊥
IsReply (Err no_memory) (Err e) = Unit {0}
IsReply (Err fault) (Ok reply) = reply ≡ Refused fault
IsReply (Err fault) (Err e) = ⊥
