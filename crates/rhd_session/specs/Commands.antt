-- What a declaring command answers and leaves: causes of a refusal, the change, and the tables of keys that it leaves anew.
use Rattle.std.specs.Prelude.{ℕ, Bool, true, false, not, ◌||◌, nat_lt, List, [], ◌∷◌, ◌++◌, length, map, take, slice_get, slice_set, Option, None, Some, is_some, option_map, option_and_then}
use Rattle.std.specs.Map.{keys_of}
use Rattle.rhd_value.specs.Tree.{Bytes}
use Rattle.rhd_value.specs.Kinds.{type_name}
use Rattle.rhd_value.specs.Firsts.{first_of, first_some, where_holds}
use Rattle.rhd_value.specs.declared.tag.FnId.{FnId}
use Rattle.rhd_value.specs.declared.tag.TypeTag.{TypeTag}
use Rattle.rhd_value.specs.declared.tag.TypeTag.TheVariants.{Custom}
use Rattle.rhd_hash.specs.declared.key.Key.{Key}
use Rattle.rhd_hash.specs.declared.mixer.Seeds.{Seeds}
use Rattle.rhd_func.specs.Natives.{NativeInfo}
use Rattle.rhd_func.specs.Funcs.{is_method, is_iter, is_script}
use Rattle.rhd_func.specs.declared.access.FnNamespace.{FnNamespace}
use Rattle.rhd_func.specs.declared.access.ManifestId.{ManifestId}
use Rattle.rhd_func.specs.declared.access.FnNamespace.TheVariants.{Global}
use Rattle.rhd_func.specs.declared.func.RhaiFunc.{RhaiFunc}
use Rattle.rhd_func.specs.declared.func.RhaiFunc.TheVariants as funcs
use Rattle.rhd_func.specs.declared.request.CallRequest.{CallRequest}
use Rattle.rhd_decl.specs.declared.fault.DeclFault.{DeclFault}
use Rattle.rhd_decl.specs.declared.fault.DeclFault.TheVariants.{IndexerNotAllowed, UnknownNumber, NotCallable}
use Rattle.rhd_manifest.specs.Entry.{entry_key}
use Rattle.rhd_manifest.specs.Manifest.{ManifestLists}
use Rattle.rhd_manifest.specs.Rank.{rank, walk}
use Rattle.rhd_decl.specs.declared.registration.FuncRegistration.{FuncRegistration}
use Rattle.rhd_module.specs.Tree.{ModuleTree, empty_module}
use Rattle.rhd_module.specs.Algebra.{combined_with, flattened_with, filled_with, merged_with, merged_all}
use Rattle.rhd_module.specs.Shown.{own_decl}
use Rattle.rhd_module.specs.Walk.{tree}
use Rattle.rhd_module.specs.Index.{indexed}
use Rattle.rhd_module.specs.Lazy.{registered_tree, touched, touched_below}
use Rattle.rhd_module.specs.Made.{made}
use Rattle.rhd_module.specs.Manifests.{combined, first_banned, registered_pairs}
use Rattle.rhd_module.specs.Contents.{with_id, with_doc, with_var, with_type, with_sub, cleared, counts}
use Rattle.rhd_decl.specs.NativeKeys.{native_key}
use Rattle.rhd_module.specs.Registered.{with_decl}
use Rattle.rhd_decl.specs.Registration.{native_at, native_decl, registered_decl, new_registration, script_key, script_decl, banned}
use Rattle.rhd_layers.specs.FirstModule.{in_first}
use Rattle.rhd_engine.specs.Registered.{fn_registration, raw_func}
use Rattle.rhd_engine.specs.Engine.{Frame, Imports}
use Rattle.rhd_layers.specs.Lists.{second}
use Rattle.rhd_layers.specs.Statics.{with_static, made_static}
use Rattle.rhd_call.specs.declared.command.Command.{Command}
use Rattle.rhd_call.specs.declared.command.Command.TheVariants as commands
use Rattle.rhd_call.specs.declared.command.ModuleId.{ModuleId}
use Rattle.rhd_call.specs.declared.reply.Reply.{Reply}
use Rattle.rhd_call.specs.declared.reply.Reply.TheVariants.{Done, Made, Count, Truth}
use Rattle.rhd_machine.specs.World.{World}

-- the call that a command makes, if it makes one
abbrev pub call_of : Command → Option CallRequest
call_of (commands.Call request) = Some request
call_of command = None

-- only a call and an import by its path declare nothing
abbrev pub declares : Command → Bool
declares (commands.Call request) = false
declares (commands.ImportPath name path) = false
declares command = true

-- Numbers that aren't held, in the order of the operands: each number with the length of its list.
abbrev pub native_operand : World → FnId → ℕ × ℕ
native_operand w id = (id.0, length w.engine.natives)

abbrev pub module_operand : World → ModuleId → ℕ × ℕ
module_operand w id = (id.0, length w.modules)

abbrev pub manifest_operand : World → ManifestId → ℕ × ℕ
manifest_operand w id = (id.0, length w.engine.manifests)

abbrev pub func_operands : World → RhaiFunc → List (ℕ × ℕ)
func_operands w (funcs.Pure id context pure volatile) = native_operand w id ∷ []
func_operands w (funcs.Method id context pure volatile) = native_operand w id ∷ []
func_operands w (funcs.Iterator id) = (id.0, w.engine.iterators) ∷ []
func_operands w (funcs.Plugin id) = native_operand w id ∷ []
func_operands w (funcs.StaticPlugin id) = native_operand w id ∷ []
func_operands w (funcs.Script def env) = []

-- a pop of an empty list stands for the number 0 of 0
abbrev pub pop_operand : {A : Type 0} → List A → List (ℕ × ℕ)
pop_operand [] = (0, 0) ∷ []
pop_operand (a ∷ more) = []

abbrev pub operands : World → Frame → Command → List (ℕ × ℕ)
operands w f commands.NewModule = []
operands w f (commands.SetId m id) = module_operand w m ∷ []
operands w f (commands.SetDoc m doc) = module_operand w m ∷ []
operands w f (commands.SetVar m name value) = module_operand w m ∷ []
operands w f (commands.SetType m type_name display) = module_operand w m ∷ []
operands w f (commands.Native m reg id) = module_operand w m ∷ native_operand w id ∷ []
operands w f (commands.RawNative m name namespace types func) = module_operand w m ∷ func_operands w func
operands w f (commands.Script m def) = module_operand w m ∷ []
operands w f (commands.FromManifest id) = manifest_operand w id ∷ []
operands w f (commands.CombineManifest m id) = module_operand w m ∷ manifest_operand w id ∷ []
operands w f (commands.RegisterLazy m) = module_operand w m ∷ []
operands w f (commands.Index m) = module_operand w m ∷ []
operands w f (commands.SubModule m name sub) = module_operand w m ∷ module_operand w sub ∷ []
operands w f (commands.Combine m other) = module_operand w m ∷ module_operand w other ∷ []
operands w f (commands.CombineFlatten m other) = module_operand w m ∷ module_operand w other ∷ []
operands w f (commands.Fill m other) = module_operand w m ∷ module_operand w other ∷ []
operands w f (commands.Merge m other) = module_operand w m ∷ module_operand w other ∷ []
operands w f (commands.Clear m) = module_operand w m ∷ []
operands w f (commands.RegisterFn name id) = native_operand w id ∷ []
operands w f (commands.RegisterRaw name types id) = native_operand w id ∷ []
operands w f (commands.RegisterType kind display) = []
operands w f (commands.GlobalModule m) = module_operand w m ∷ []
operands w f (commands.StaticModule name m) = module_operand w m ∷ []
operands w f (commands.PushLib m) = module_operand w m ∷ []
operands w f commands.PopLib = pop_operand f.lib
operands w f (commands.PushImport name m) = module_operand w m ∷ []
operands w f (commands.ImportPath name path) = []
operands w f commands.PopImport = pop_operand f.imports
operands w f (commands.SetSource source) = []
operands w f (commands.SetTag tag) = []
operands w f (commands.Call request) = []
operands w f (commands.Count m) = module_operand w m ∷ []
operands w f (commands.Contains m key) = module_operand w m ∷ []

abbrev pub unknown_of : ℕ × ℕ → Option DeclFault
unknown_of (number, length) = where_holds (not (nat_lt number length)) (UnknownNumber number length)

abbrev pub unknown_number : World → Frame → Command → Option DeclFault
unknown_number w f command = first_of unknown_of (operands w f command)

-- a function that iterates and a script can't be registered raw
abbrev pub not_callable : Command → Option DeclFault
not_callable (commands.RawNative m name namespace types func) = where_holds (is_iter func || is_script func) NotCallable
not_callable command = None

-- a manifest, or one below it, lists a banned indexer: the first from the lowest precedence to the highest
abbrev pub banned_listed : List ManifestLists → ManifestId → Option DeclFault
banned_listed table id = option_map (λ e. IndexerNotAllowed (entry_key e)) (first_banned (rank table id true))

-- a banned indexer is registered, or listed
abbrev pub indexer_not_allowed : List NativeInfo → List ManifestLists → Command → Option DeclFault
indexer_not_allowed natives table (commands.Native m reg id) = let info = native_at natives id in banned info.is_method reg.name info.types
indexer_not_allowed natives table (commands.RawNative m name namespace types func) = banned (is_method natives func) name types
indexer_not_allowed natives table (commands.RegisterFn name id) = let info = native_at natives id in banned info.is_method name info.types
indexer_not_allowed natives table (commands.RegisterRaw name types id) = banned true name types
indexer_not_allowed natives table (commands.FromManifest id) = banned_listed table id
indexer_not_allowed natives table (commands.CombineManifest m id) = banned_listed table id
indexer_not_allowed natives table command = None

-- the first cause of a refusal that holds, but for a collision
abbrev pub cause : World → Frame → Command → Option DeclFault
cause w f command = first_some (unknown_number w f command ∷ not_callable command ∷ indexer_not_allowed w.engine.natives w.engine.manifests command ∷ [])

-- the keys of a table, with the seeds under which they are hashed
pub record Keyed : Type 0 where
  pub seeds : Seeds
  pub keys : List Key

abbrev pub eager_keys : ModuleTree → Keyed
eager_keys m = record { seeds = m.own.seeds; keys = keys_of m.own.eager }

-- the keys of a module's tree
abbrev pub tree_keys : ModuleTree → Keyed
tree_keys m = record { seeds = m.own.seeds; keys = keys_of (tree m) }

-- the keys of what a module lists and declares, registered
abbrev pub registered_keys : ModuleTree → Keyed
registered_keys m = record { seeds = m.own.seeds; keys = keys_of (registered_pairs m.own) }

-- a module as a command leaves it, and the tables in it that aren't as before
pub record ChangedModule : Type 0 where
  pub tree : ModuleTree
  pub tables : List Keyed

abbrev pub without_keys : ModuleTree → ChangedModule
without_keys m = record { tree = m; tables = [] }

abbrev pub with_keys : ModuleTree → ChangedModule
with_keys m = record { tree = m; tables = eager_keys m ∷ [] }

-- a native is registered by its number
abbrev pub registered : List NativeInfo → FuncRegistration → FnId → ModuleTree → ModuleTree
registered natives reg id m = let info = native_at natives id in with_decl (native_key info.is_method reg.name info.types) (registered_decl m.own.seeds reg info id) m

-- a function is registered raw, with these types
abbrev pub registered_raw : List NativeInfo → FuncRegistration → List TypeTag → RhaiFunc → ModuleTree → ModuleTree
registered_raw natives reg types func m = let method = is_method natives func in with_decl (native_key method reg.name types) (native_decl m.own.seeds reg method types func) m

-- a raw registration says its name and its namespace alone
abbrev pub raw_registration : Bytes → FnNamespace → FuncRegistration
raw_registration name namespace = record (new_registration name) { namespace = namespace }

-- the module that a command changes by itself
abbrev pub target : Command → Option ModuleId
target (commands.SetId m id) = Some m
target (commands.SetDoc m doc) = Some m
target (commands.SetVar m name value) = Some m
target (commands.SetType m type_name display) = Some m
target (commands.Native m reg id) = Some m
target (commands.RawNative m name namespace types func) = Some m
target (commands.Script m def) = Some m
target (commands.CombineManifest m id) = Some m
target (commands.RegisterLazy m) = Some m
target (commands.Index m) = Some m
target (commands.Clear m) = Some m
target command = None

-- what is listed in its tree, registered: each module of it in which something is listed, or below which, has a new table, and the sub-modules among them are indexed
abbrev pub all_registered : ModuleTree → ChangedModule
all_registered m = record { tree = registered_tree m; tables = map registered_keys (touched m) ++ map (λ child. tree_keys (registered_tree child)) (touched_below m.subs) }

-- what it makes of that module
abbrev pub module_change : List NativeInfo → List ManifestLists → Command → ModuleTree → ChangedModule
module_change natives table (commands.SetId m id) old = without_keys (with_id id old)
module_change natives table (commands.SetDoc m doc) old = without_keys (with_doc doc old)
module_change natives table (commands.SetVar m name value) old = without_keys (with_var name value old)
module_change natives table (commands.SetType m type_name display) old = without_keys (with_type type_name display [] old)
module_change natives table (commands.Native m reg id) old = with_keys (registered natives reg id old)
module_change natives table (commands.RawNative m name namespace types func) old = with_keys (registered_raw natives (raw_registration name namespace) types func old)
module_change natives table (commands.Script m def) old = with_keys (with_decl (script_key def) (script_decl old.own.seeds def None) old)
module_change natives table (commands.CombineManifest m id) old = without_keys (combined table id old)
module_change natives table (commands.RegisterLazy m) old = all_registered old
module_change natives table (commands.Index m) old = record { tree = indexed old; tables = tree_keys old ∷ [] }
module_change natives table (commands.Clear m) old = without_keys (cleared old)
module_change natives table command old = without_keys old

-- what a command answers and leaves where nothing refuses it; no two keys of one of the tables may clash
pub record Change : Type 0 where
  pub reply : Reply
  pub world : World
  pub frame : Frame
  pub tables : List Keyed

-- only the module of a number changes
abbrev pub with_module : World → Frame → ModuleId → ChangedModule → Change
with_module w f m new = record { reply = Done; world = record w { modules = slice_set w.modules m.0 new.tree }; frame = f; tables = new.tables }

abbrev pub changed : World → Frame → ModuleId → (ModuleTree → ChangedModule) → Option Change
changed w f m change = option_map (λ old. with_module w f m (change old)) (slice_get w.modules m.0)

-- only the module of a number changes, by what another is then; both can be the same
abbrev pub changed_with : World → Frame → ModuleId → ModuleId → (ModuleTree → ModuleTree → ChangedModule) → Option Change
changed_with w f m other change = option_and_then (λ o. changed w f m (change o)) (slice_get w.modules other.0)

-- one module more is made, which gets the next number
abbrev pub with_made : World → Frame → ChangedModule → Change
with_made w f new = record { reply = Made (record { 0 = length w.modules }); world = record w { modules = w.modules ++ new.tree ∷ [] }; frame = f; tables = new.tables }

-- the module of a manifest, with the keys of the trees of it and of all below it
abbrev pub made_of : Seeds → List ManifestLists → ManifestId → ChangedModule
made_of seeds table id = record { tree = made seeds table id; tables = map (λ i. tree_keys (made seeds table i)) (walk table id) }

-- only the first global module changes
abbrev pub with_globals : World → Frame → List ModuleTree → List Keyed → Change
with_globals w f globals tables = record { reply = Done; world = record w { engine = record w.engine { globals = globals } }; frame = f; tables = tables }

abbrev pub changed_first : World → Frame → (ModuleTree → ModuleTree) → Change
changed_first w f change = let globals = in_first change w.engine.globals in with_globals w f globals (map eager_keys (take 1 globals))

-- only the static modules change
abbrev pub with_statics : World → Frame → Imports → List Keyed → Change
with_statics w f statics tables = record { reply = Done; world = record w { engine = record w.engine { statics = statics } }; frame = f; tables = tables }

-- only the imports change
abbrev pub with_imports : World → Frame → Imports → List Keyed → Change
with_imports w f imports tables = record { reply = Done; world = w; frame = record f { imports = imports }; tables = tables }

-- only the libraries change
abbrev pub with_libs : World → Frame → List ModuleTree → Change
with_libs w f libs = record { reply = Done; world = w; frame = record f { lib = libs }; tables = [] }

-- only the source or the tag changes
abbrev pub with_frame : World → Frame → Change
with_frame w f = record { reply = Done; world = w; frame = f; tables = [] }

-- nothing changes
abbrev pub answering : World → Frame → Reply → Change
answering w f reply = record { reply = reply; world = w; frame = f; tables = [] }

-- another module merged into one: each module that this makes of a sub-module has a new table too
abbrev pub merged : ModuleTree → ModuleTree → ChangedModule
merged other m = record { tree = merged_with (λ d. true) other m; tables = map eager_keys (merged_all (λ d. true) other m) }

-- how many variables, declarations and functions that iterate a module has
abbrev pub counted : ModuleTree → Reply
counted m = let n = counts m in Count n.0 n.1.0 n.1.1

-- a list without its last element
abbrev pub but_last : {A : Type 0} → List A → List A
but_last [] = []
but_last (a ∷ []) = []
but_last (a ∷ b ∷ more) = a ∷ but_last (b ∷ more)

-- what a command that changes a module by itself, answers and leaves
abbrev pub changed_by : World → Frame → Command → Option ModuleId → Option Change
changed_by w f command None = None
changed_by w f command (Some m) = changed w f m (module_change w.engine.natives w.engine.manifests command)

abbrev pub change : World → Frame → Command → Option Change
change w f commands.NewModule = Some (with_made w f (without_keys (empty_module w.engine.seeds)))
change w f (commands.FromManifest id) = Some (with_made w f (made_of w.engine.seeds w.engine.manifests id))
change w f (commands.SubModule m name sub) = changed_with w f m sub (λ child old. without_keys (with_sub name child old))
change w f (commands.Combine m other) = changed_with w f m other (λ o old. with_keys (combined_with o old))
change w f (commands.CombineFlatten m other) = changed_with w f m other (λ o old. with_keys (flattened_with o old))
change w f (commands.Fill m other) = changed_with w f m other (λ o old. with_keys (filled_with o old))
change w f (commands.Merge m other) = changed_with w f m other merged
change w f (commands.RegisterFn name id) = Some (changed_first w f (registered w.engine.natives (fn_registration w.engine.natives name id) id))
change w f (commands.RegisterRaw name types id) = Some (changed_first w f (registered_raw w.engine.natives (raw_registration name Global) types (raw_func name types id)))
change w f (commands.RegisterType kind display) = Some (with_globals w f (in_first (with_type (type_name (Custom kind)) display []) w.engine.globals) [])
change w f (commands.GlobalModule m) = option_map (λ added. with_globals w f (second added w.engine.globals) []) (slice_get w.modules m.0)
change w f (commands.StaticModule name m) = option_map (λ added. with_statics w f (with_static w.engine.seeds name added w.engine.statics) (map tree_keys (made_static w.engine.seeds name added w.engine.statics))) (slice_get w.modules m.0)
change w f (commands.PushLib m) = option_map (λ added. with_libs w f (f.lib ++ added ∷ [])) (slice_get w.modules m.0)
change w f commands.PopLib = Some (with_libs w f (but_last f.lib))
change w f (commands.PushImport name m) = option_map (λ added. with_imports w f (f.imports ++ (name, indexed added) ∷ []) (tree_keys added ∷ [])) (slice_get w.modules m.0)
change w f commands.PopImport = Some (with_imports w f (but_last f.imports) [])
change w f (commands.SetSource source) = Some (with_frame w (record f { source = source }))
change w f (commands.SetTag tag) = Some (with_frame w (record f { tag = tag }))
change w f (commands.Count m) = option_map (λ asked. answering w f (counted asked)) (slice_get w.modules m.0)
change w f (commands.Contains m key) = option_map (λ asked. answering w f (Truth (is_some (own_decl asked key)))) (slice_get w.modules m.0)
change w f command = changed_by w f command (target command)
