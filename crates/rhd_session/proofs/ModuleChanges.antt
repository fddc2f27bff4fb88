-- Commands that change one module by themselves.
use Rattle.std.proofs.Common.{◌≡◌, ◌≤◌, ◌<◌, ℕ, Bool, true, not, List, [], ◌∷◌, length, refl, sym, ap, subst, ◌∙◌, arith}
use Rattle.std.specs.Prelude.{◌||◌, Option, Some, None, Result, Ok, Err, nat_lt, slice_get, slice_set, option_map}
use Rattle.std.specs.List.{AllByRecursion, Contains}
use Rattle.std.specs.Option.{option_or}
use Rattle.std.proofs.lemmas.Bool.{lt-ltb}
use Rattle.std.proofs.lemmas.Option.{slice_get_within}
use Rattle.rhd_value.specs.Firsts.{first_of, first_some, where_holds}
use Rattle.rhd_value.specs.declared.tag.FnId.{FnId}
use Rattle.rhd_hash.specs.declared.key.Key.{Key}
use Rattle.rhd_hash.specs.Table.{Clashing}
use Rattle.rhd_func.specs.Natives.{NativeInfo}
use Rattle.rhd_func.specs.declared.func.RhaiFunc.{RhaiFunc}
use Rattle.rhd_func.specs.declared.func.RhaiFunc.TheVariants as funcs
use Rattle.rhd_func.specs.Funcs.{native_of, iter_fn_of, is_method, is_iter, is_script}
use Rattle.rhd_func.specs.Infos.{infos_of}
use Rattle.rhd_func.specs.declared.natives.Natives.{Natives}
use Rattle.rhd_decl.specs.declared.declaration.Declaration.{Declaration}
use Rattle.rhd_decl.specs.declared.fault.DeclFault.{DeclFault}
use Rattle.rhd_decl.specs.declared.fault.DeclFault.TheVariants.{HashCollision, IndexerNotAllowed, NotCallable, UnknownNumber, OutOfMemory as no_memory}
use Rattle.rhd_manifest.specs.Manifest.{ManifestLists}
use Rattle.rhd_module.specs.Tree.{ModuleTree}
use Rattle.rhd_value.specs.Tree.{Bytes}
use Rattle.rhd_value.specs.declared.tag.TypeTag.{TypeTag}
use Rattle.rhd_func.specs.declared.access.FnNamespace.{FnNamespace}
use Rattle.rhd_func.specs.declared.func.ScriptFuncDef.{ScriptFuncDef}
use Rattle.rhd_decl.specs.declared.registration.FuncRegistration.{FuncRegistration}
use Rattle.rhd_module.specs.Index.{Indexes}
use Rattle.rhd_module.proofs.Fills.{none_clash}
use Rattle.std.specs.Map.{keys_of}
use Rattle.rhd_decl.specs.NativeKeys.{native_key}
use Rattle.rhd_table.specs.Pairs.{put}
use Rattle.rhd_module.specs.Registered.{with_decl, Puts, Registers, RegistersRaw}
use Rattle.rhd_decl.specs.Registration.{unheld, banned, native_at, native_decl, registered_func, registered_decl, registration_cause, raw_cause, script_key, script_decl}
use Rattle.rhd_engine.specs.Engine.{Frame}
use Rattle.rhd_engine.specs.Held.{names_held, table_held}
use Rattle.rhd_call.specs.declared.command.Command.{Command}
use Rattle.rhd_call.specs.declared.command.ModuleId.{ModuleId}
use Rattle.rhd_func.specs.declared.access.IterId.{IterId}
use Rattle.rhd_call.specs.declared.reply.Reply.TheVariants.{Refused}
use Rattle.rhd_call.specs.declared.command.Command.TheVariants as commands
use Rattle.rhd_machine.specs.World.{World}
use Rattle.rhd_session.specs.Commands.{cause, change, Keyed, eager_keys, tree_keys, ChangedModule, with_keys, module_change, target, operands, func_operands, unknown_of, not_callable, indexer_not_allowed, with_module, raw_registration}
use Rattle.rhd_session.specs.Answered.{Declares, refused, collided, NoClash}
use Rattle.rhd_session.specs.Changing.{ChangesModule, Goes, module_cause, native_in, manifest_in, unheld_manifest, iterator_in}
use Rattle.rhd_engine.proofs.HeldLaws.{stays_held, number_held, registered_number, allowed_held, can_be_called, callable_by, infos_count}
use Rattle.rhd_engine.proofs.HeldManifests.{combined_held}
use Rattle.rhd_engine.proofs.HeldLazy.{registered_tree_held}
use Rattle.rhd_session.proofs.Declared.{set_there, done_in, refused_first, refused_second}

-- a declaration that is put is a change with the keys of the new table
pub puts_change : (natives : List NativeInfo) (table : List ManifestLists) (command : Command) (known : Option DeclFault) (k : Key) (d : Declaration) (old new : ModuleTree) (r : Result (Unit {0}) DeclFault) → module_cause natives table command ≡ known → module_change natives table command old ≡ with_keys (with_decl k d old)
    → Puts known k d old r new → ChangesModule natives table command old r new
puts_change natives table command known k d old new (Ok u) none is puts =
    (none ∙ puts.0, subst (λ (c : ChangedModule). AllByRecursion NoClash c.tables) (sym is) (none_clash old.own.seeds (keys_of (put k d old.own.eager)) puts.1, tt), puts.2 ∙ ap (λ (c : ChangedModule). c.tree) (sym is))
puts_change natives table command known k d old new (Err no_memory) none is puts = puts
puts_change natives table command known k d old new (Err (HashCollision held other)) none is puts = (
  none ∙ puts.0,
  subst (λ (c : ChangedModule). (keyed : Keyed) × Contains c.tables keyed × Clashing keyed.seeds keyed.keys held other) (sym is) (eager_keys (with_decl k d old), (0, omega arith, refl), puts.1),
  puts.2,
)
puts_change natives table command known k d old new (Err (IndexerNotAllowed key)) none is puts = (none ∙ puts.0, puts.1)
puts_change natives table command known k d old new (Err NotCallable) none is puts = (none ∙ puts.0, puts.1)
puts_change natives table command known k d old new (Err (UnknownNumber number count)) none is puts = (none ∙ puts.0, puts.1)

-- building an index is a change with the keys of the tree
pub index_changes : (natives : List NativeInfo) (table : List ManifestLists) (command : Command) (m : ModuleId) (old new : ModuleTree) (r : Result (Unit {0}) DeclFault) → command ≡ commands.Index m → Indexes old r new → ChangesModule natives table command old r new
index_changes natives table command m old new r is does = subst (λ (c : Command). ChangesModule natives table c old r new) (sym is) (by r does)
  where
    by : (r : Result (Unit {0}) DeclFault) → Indexes old r new → ChangesModule natives table (commands.Index m) old r new
    by (Ok u) does = (refl, (does.0, tt), does.1)
    by (Err no_memory) does = does
    by (Err (HashCollision held other)) does = (refl, (tree_keys old, (0, omega arith, refl), does.0), does.1)
    by (Err (IndexerNotAllowed key)) does = absurd does
    by (Err NotCallable) does = absurd does
    by (Err (UnknownNumber number count)) does = absurd does

-- the commands that put a declaration
pub native_changes : (natives : List NativeInfo) (table : List ManifestLists) (command : Command) (m : ModuleId) (reg : FuncRegistration) (id : FnId) (old new : ModuleTree) (r : Result (Unit {0}) DeclFault) → command ≡ commands.Native m reg id → Registers natives reg id old r new → ChangesModule natives table command old r new
native_changes natives table command m reg id old new r is puts =
    let info = native_at natives id in
    subst (λ (x : Command). ChangesModule natives table x old r new) (sym is)
    (puts_change natives table (commands.Native m reg id) (registration_cause natives reg.name id) (native_key info.is_method reg.name info.types) (registered_decl old.own.seeds reg info id) old new r refl refl puts)

pub raw_changes : (natives : List NativeInfo) (table : List ManifestLists) (command : Command) (m : ModuleId) (name : Bytes) (namespace : FnNamespace) (types : List TypeTag) (func : RhaiFunc) (old new : ModuleTree) (r : Result (Unit {0}) DeclFault) → command ≡ commands.RawNative m name namespace types func
    → RegistersRaw natives (raw_registration name namespace) types func old r new → ChangesModule natives table command old r new
raw_changes natives table command m name namespace types func old new r is puts =
    let method = is_method natives func in
    subst (λ (x : Command). ChangesModule natives table x old r new) (sym is)
    (puts_change natives table (commands.RawNative m name namespace types func) (raw_cause natives name types func) (native_key method name types) (native_decl old.own.seeds (raw_registration name namespace) method types func) old new r refl refl puts)

pub script_changes : (natives : List NativeInfo) (table : List ManifestLists) (command : Command) (m : ModuleId) (def : ScriptFuncDef) (old new : ModuleTree) (r : Result (Unit {0}) DeclFault) → command ≡ commands.Script m def → Puts None (script_key def) (script_decl old.own.seeds def None) old r new → ChangesModule natives table command old r new
script_changes natives table command m def old new r is puts =
    subst (λ (x : Command). ChangesModule natives table x old r new) (sym is) (puts_change natives table (commands.Script m def) None (script_key def) (script_decl old.own.seeds def None) old new r refl refl puts)

-- where the only operand before is held, those behind it refuse
behind : (number held : ℕ) (more : List (ℕ × ℕ)) → nat_lt number held ≡ true → first_of unknown_of ((number, held) ∷ more) ≡ first_of unknown_of more
behind number held more below = ap (λ (b : Bool). option_or (where_holds (not b) (UnknownNumber number held)) (first_of unknown_of more)) below

or_none : (o : Option DeclFault) → option_or o None ≡ o
or_none None = refl
or_none (Some fault) = refl

func_unheld : (w : World) (func : RhaiFunc) → iter_fn_of func ≡ None → first_of unknown_of (func_operands w func) ≡ option_or (unheld w.engine.natives (native_of func)) None
func_unheld w (funcs.Pure id context pure volatile) none = refl
func_unheld w (funcs.Method id context pure volatile) none = refl
func_unheld w (funcs.Iterator id) none = absurd cc
func_unheld w (funcs.Plugin id) none = refl
func_unheld w (funcs.StaticPlugin id) none = refl
func_unheld w (funcs.Script def env) none = refl

or_either : {A : Type 0} (a b c : Option A) → option_or (option_or a b) c ≡ option_or a (option_or b c)
or_either None b c = refl
or_either (Some x) b c = refl

caused : (w : World) (command : Command) (unknown : Option DeclFault) → unknown ≡ option_or (unheld w.engine.natives (native_in command)) (unheld_manifest w.engine.manifests (manifest_in command))
    → first_some (unknown ∷ not_callable command ∷ indexer_not_allowed w.engine.natives w.engine.manifests command ∷ []) ≡ module_cause w.engine.natives w.engine.manifests command
caused w command unknown is =
    let others = not_callable command ∷ indexer_not_allowed w.engine.natives w.engine.manifests command ∷ [] in
    ap (λ (u : Option DeclFault). first_some (u ∷ others)) is ∙ or_either (unheld w.engine.natives (native_in command)) (unheld_manifest w.engine.manifests (manifest_in command)) (first_some others)

below_same : (w : World) (m other : ModuleId) → Some m ≡ Some other → nat_lt other.0 (length w.modules) ≡ true → nat_lt m.0 (length w.modules) ≡ true
below_same w m other e below = let same : m ≡ other = cc in ap (λ (id : ModuleId). nat_lt id.0 (length w.modules)) same ∙ below

-- of a module that is held, the cause is the module's
cause_held : (w : World) (f : Frame) (command : Command) (id : ModuleId) → target command ≡ Some id → iterator_in command ≡ None → nat_lt id.0 (length w.modules) ≡ true → cause w f command ≡ module_cause w.engine.natives w.engine.manifests command
cause_held w f (commands.SetId m a) id at plain below = caused w (commands.SetId m a) _ (behind m.0 (length w.modules) [] (below_same w m id at below))
cause_held w f (commands.SetDoc m a) id at plain below = caused w (commands.SetDoc m a) _ (behind m.0 (length w.modules) [] (below_same w m id at below))
cause_held w f (commands.SetVar m a b) id at plain below = caused w (commands.SetVar m a b) _ (behind m.0 (length w.modules) [] (below_same w m id at below))
cause_held w f (commands.SetType m a b) id at plain below = caused w (commands.SetType m a b) _ (behind m.0 (length w.modules) [] (below_same w m id at below))
cause_held w f (commands.Native m reg n) id at plain below = caused w (commands.Native m reg n) _ (behind m.0 (length w.modules) ((n.0, length w.engine.natives) ∷ []) (below_same w m id at below))
cause_held w f (commands.RawNative m name namespace types func) id at plain below =
    caused w (commands.RawNative m name namespace types func) _ (behind m.0 (length w.modules) (func_operands w func) (below_same w m id at below) ∙ func_unheld w func plain)
cause_held w f (commands.Script m def) id at plain below = caused w (commands.Script m def) _ (behind m.0 (length w.modules) [] (below_same w m id at below))
cause_held w f (commands.CombineManifest m a) id at plain below = caused w (commands.CombineManifest m a) _ (behind m.0 (length w.modules) ((a.0, length w.engine.manifests) ∷ []) (below_same w m id at below) ∙ or_none _)
cause_held w f (commands.RegisterLazy m) id at plain below = caused w (commands.RegisterLazy m) _ (behind m.0 (length w.modules) [] (below_same w m id at below))
cause_held w f (commands.FromManifest a) id at plain below = absurd cc
cause_held w f (commands.Index m) id at plain below = caused w (commands.Index m) _ (behind m.0 (length w.modules) [] (below_same w m id at below))
cause_held w f (commands.Clear m) id at plain below = caused w (commands.Clear m) _ (behind m.0 (length w.modules) [] (below_same w m id at below))
cause_held w f commands.NewModule id at plain below = absurd cc
cause_held w f (commands.SubModule m name sub) id at plain below = absurd cc
cause_held w f (commands.Combine m other) id at plain below = absurd cc
cause_held w f (commands.CombineFlatten m other) id at plain below = absurd cc
cause_held w f (commands.Fill m other) id at plain below = absurd cc
cause_held w f (commands.Merge m other) id at plain below = absurd cc
cause_held w f (commands.RegisterFn name n) id at plain below = absurd cc
cause_held w f (commands.RegisterRaw name types n) id at plain below = absurd cc
cause_held w f (commands.RegisterType kind display) id at plain below = absurd cc
cause_held w f (commands.GlobalModule m) id at plain below = absurd cc
cause_held w f (commands.StaticModule name m) id at plain below = absurd cc
cause_held w f (commands.PushLib m) id at plain below = absurd cc
cause_held w f commands.PopLib id at plain below = absurd cc
cause_held w f (commands.PushImport name m) id at plain below = absurd cc
cause_held w f (commands.ImportPath name path) id at plain below = absurd cc
cause_held w f commands.PopImport id at plain below = absurd cc
cause_held w f (commands.SetSource source) id at plain below = absurd cc
cause_held w f (commands.SetTag tag) id at plain below = absurd cc
cause_held w f (commands.Call request) id at plain below = absurd cc
cause_held w f (commands.Count m) id at plain below = absurd cc
cause_held w f (commands.Contains m key) id at plain below = absurd cc

changed_at : (w : World) (f : Frame) (command : Command) (m id : ModuleId) (old : ModuleTree) → Some m ≡ Some id → slice_get w.modules id.0 ≡ Some old
    → option_map (λ o. with_module w f m (module_change w.engine.natives w.engine.manifests command o)) (slice_get w.modules m.0) ≡ Some (with_module w f id (module_change w.engine.natives w.engine.manifests command old))
changed_at w f command m id old e is =
    let same : m ≡ id = cc in
    (λ i. option_map (λ o. with_module w f (same i) (module_change w.engine.natives w.engine.manifests command o)) (slice_get w.modules (same i).0)) ∙ ap (option_map (λ o. with_module w f id (module_change w.engine.natives w.engine.manifests command o))) is

-- the module of the number changes
change_held : (w : World) (f : Frame) (command : Command) (id : ModuleId) (old : ModuleTree) → target command ≡ Some id → slice_get w.modules id.0 ≡ Some old → change w f command ≡ Some (with_module w f id (module_change w.engine.natives w.engine.manifests command old))
change_held w f (commands.SetId m a) id old at is = changed_at w f (commands.SetId m a) m id old at is
change_held w f (commands.SetDoc m a) id old at is = changed_at w f (commands.SetDoc m a) m id old at is
change_held w f (commands.SetVar m a b) id old at is = changed_at w f (commands.SetVar m a b) m id old at is
change_held w f (commands.SetType m a b) id old at is = changed_at w f (commands.SetType m a b) m id old at is
change_held w f (commands.Native m reg n) id old at is = changed_at w f (commands.Native m reg n) m id old at is
change_held w f (commands.RawNative m name namespace types func) id old at is = changed_at w f (commands.RawNative m name namespace types func) m id old at is
change_held w f (commands.Script m def) id old at is = changed_at w f (commands.Script m def) m id old at is
change_held w f (commands.CombineManifest m a) id old at is = changed_at w f (commands.CombineManifest m a) m id old at is
change_held w f (commands.RegisterLazy m) id old at is = changed_at w f (commands.RegisterLazy m) m id old at is
change_held w f (commands.FromManifest a) id old at is = absurd cc
change_held w f (commands.Index m) id old at is = changed_at w f (commands.Index m) m id old at is
change_held w f (commands.Clear m) id old at is = changed_at w f (commands.Clear m) m id old at is
change_held w f commands.NewModule id old at is = absurd cc
change_held w f (commands.SubModule m name sub) id old at is = absurd cc
change_held w f (commands.Combine m other) id old at is = absurd cc
change_held w f (commands.CombineFlatten m other) id old at is = absurd cc
change_held w f (commands.Fill m other) id old at is = absurd cc
change_held w f (commands.Merge m other) id old at is = absurd cc
change_held w f (commands.RegisterFn name n) id old at is = absurd cc
change_held w f (commands.RegisterRaw name types n) id old at is = absurd cc
change_held w f (commands.RegisterType kind display) id old at is = absurd cc
change_held w f (commands.GlobalModule m) id old at is = absurd cc
change_held w f (commands.StaticModule name m) id old at is = absurd cc
change_held w f (commands.PushLib m) id old at is = absurd cc
change_held w f commands.PopLib id old at is = absurd cc
change_held w f (commands.PushImport name m) id old at is = absurd cc
change_held w f (commands.ImportPath name path) id old at is = absurd cc
change_held w f commands.PopImport id old at is = absurd cc
change_held w f (commands.SetSource source) id old at is = absurd cc
change_held w f (commands.SetTag tag) id old at is = absurd cc
change_held w f (commands.Call request) id old at is = absurd cc
change_held w f (commands.Count m) id old at is = absurd cc
change_held w f (commands.Contains m key) id old at is = absurd cc

-- the world with an equal module put at its place
pub left : (w : World) (id : ModuleId) (old new : ModuleTree) → slice_get w.modules id.0 ≡ Some old → new ≡ old → record w { modules = slice_set w.modules id.0 new } ≡ w
left w id old new is same = ap (λ (ms : List ModuleTree). record w { modules = ms }) (ap (slice_set w.modules id.0) same ∙ set_there w.modules id.0 old is)

-- what a change of a module comes to in its world
pub module_goes : (w w2 : World) (f : Frame) (command : Command) (id : ModuleId) (old new : ModuleTree) (r : Result (Unit {0}) DeclFault) → target command ≡ Some id → iterator_in command ≡ None → slice_get w.modules id.0 ≡ Some old
    → w2 ≡ record w { modules = slice_set w.modules id.0 new } → ChangesModule w.engine.natives w.engine.manifests command old r new → Goes w f command r w2 f
module_goes w w2 f command id old new (Ok u) at plain is made goes =
    let below = lt-ltb id.0 (length w.modules) (slice_get_within w.modules id.0 old is) in
    done_in w w2 f f command (with_module w f id (module_change w.engine.natives w.engine.manifests command old)) (cause_held w f command id at plain below ∙ goes.0) (change_held w f command id old at is) goes.1
    (made ∙ ap (λ (m : ModuleTree). record w { modules = slice_set w.modules id.0 m }) goes.2) refl
module_goes w w2 f command id old new (Err no_memory) at plain is made goes = (made ∙ left w id old new is goes, refl)
module_goes w w2 f command id old new (Err (HashCollision held other)) at plain is made goes =
    let below = lt-ltb id.0 (length w.modules) (slice_get_within w.modules id.0 old is) in
    let t = goes.1 in
    subst (λ (x : World). Goes w f command (Err (HashCollision held other)) x f) (sym (made ∙ left w id old new is goes.2))
    (collided (cause_held w f command id at plain below ∙ goes.0) (change_held w f command id old at is) t.1 t.2)
module_goes w w2 f command id old new (Err (IndexerNotAllowed key)) at plain is made goes =
    let below = lt-ltb id.0 (length w.modules) (slice_get_within w.modules id.0 old is) in
    subst (λ (x : World). Goes w f command (Err (IndexerNotAllowed key)) x f) (sym (made ∙ left w id old new is goes.1)) (refused (cause_held w f command id at plain below ∙ goes.0))
module_goes w w2 f command id old new (Err NotCallable) at plain is made goes =
    let below = lt-ltb id.0 (length w.modules) (slice_get_within w.modules id.0 old is) in
    subst (λ (x : World). Goes w f command (Err NotCallable) x f) (sym (made ∙ left w id old new is goes.1)) (refused (cause_held w f command id at plain below ∙ goes.0))
module_goes w w2 f command id old new (Err (UnknownNumber number count)) at plain is made goes =
    let below = lt-ltb id.0 (length w.modules) (slice_get_within w.modules id.0 old is) in
    subst (λ (x : World). Goes w f command (Err (UnknownNumber number count)) x f) (sym (made ∙ left w id old new is goes.1)) (refused (cause_held w f command id at plain below ∙ goes.0))

-- A module in which all that it declares can be called stays so.

held_once : (natives : List NativeInfo) (table : List ManifestLists) (command : Command) (old : ModuleTree) → module_cause natives table command ≡ None → table_held (length natives) table ≡ true → names_held (length natives) old ≡ true → names_held (length natives) (module_change natives table command old).tree ≡ true
held_once natives table (commands.SetId m a) old none tabled all = all
held_once natives table (commands.SetDoc m a) old none tabled all = all
held_once natives table (commands.SetVar m a b) old none tabled all = all
held_once natives table (commands.SetType m a b) old none tabled all = all
held_once natives table (commands.Native m reg n) old none tabled all =
    let info = native_at natives n in
    stays_held (length natives) _ _ old (number_held (length natives) (registered_func reg info n) n (registered_number reg info n) (allowed_held natives (Some n) (None ∷ None ∷ banned info.is_method reg.name info.types ∷ []) none)) all
held_once natives table (commands.RawNative m name namespace types func) old none tabled all =
    let test = is_iter func || is_script func in
    let refusals = banned (is_method natives func) name types ∷ [] in
    stays_held (length natives) _ _ old (can_be_called (length natives) func (allowed_held natives (native_of func) (None ∷ where_holds test NotCallable ∷ refusals) none) (callable_by (unheld natives (native_of func)) test refusals none)) all
held_once natives table (commands.Script m def) old none tabled all = stays_held (length natives) _ _ old refl all
held_once natives table (commands.FromManifest a) old none tabled all = all
held_once natives table (commands.CombineManifest m a) old none tabled all = combined_held (length natives) table tabled a old all
held_once natives table (commands.RegisterLazy m) old none tabled all = registered_tree_held (length natives) old all
held_once natives table (commands.Index m) old none tabled all = all
held_once natives table (commands.Clear m) old none tabled all = refl
held_once natives table commands.NewModule old none tabled all = all
held_once natives table (commands.SubModule m name sub) old none tabled all = all
held_once natives table (commands.Combine m other) old none tabled all = all
held_once natives table (commands.CombineFlatten m other) old none tabled all = all
held_once natives table (commands.Fill m other) old none tabled all = all
held_once natives table (commands.Merge m other) old none tabled all = all
held_once natives table (commands.RegisterFn name n) old none tabled all = all
held_once natives table (commands.RegisterRaw name types n) old none tabled all = all
held_once natives table (commands.RegisterType kind display) old none tabled all = all
held_once natives table (commands.GlobalModule m) old none tabled all = all
held_once natives table (commands.StaticModule name m) old none tabled all = all
held_once natives table (commands.PushLib m) old none tabled all = all
held_once natives table commands.PopLib old none tabled all = all
held_once natives table (commands.PushImport name m) old none tabled all = all
held_once natives table (commands.ImportPath name path) old none tabled all = all
held_once natives table commands.PopImport old none tabled all = all
held_once natives table (commands.SetSource source) old none tabled all = all
held_once natives table (commands.SetTag tag) old none tabled all = all
held_once natives table (commands.Call request) old none tabled all = all
held_once natives table (commands.Count m) old none tabled all = all
held_once natives table (commands.Contains m key) old none tabled all = all

held_changed : (natives : List NativeInfo) (table : List ManifestLists) (command : Command) (old new : ModuleTree) (r : Result (Unit {0}) DeclFault) → ChangesModule natives table command old r new → table_held (length natives) table ≡ true → names_held (length natives) old ≡ true → names_held (length natives) new ≡ true
held_changed natives table command old new (Ok u) goes tabled all = ap (names_held (length natives)) goes.2 ∙ held_once natives table command old goes.0 tabled all
held_changed natives table command old new (Err no_memory) goes tabled all = ap (names_held (length natives)) goes ∙ all
held_changed natives table command old new (Err (HashCollision held other)) goes tabled all = ap (names_held (length natives)) goes.2 ∙ all
held_changed natives table command old new (Err (IndexerNotAllowed key)) goes tabled all = ap (names_held (length natives)) goes.1 ∙ all
held_changed natives table command old new (Err NotCallable) goes tabled all = ap (names_held (length natives)) goes.1 ∙ all
held_changed natives table command old new (Err (UnknownNumber number count)) goes tabled all = ap (names_held (length natives)) goes.1 ∙ all

-- the same by a table of natives
pub held_by_table : {X : Type 0} {F : X → Type 0} (info : (x : X) × F x → NativeInfo) (natives : Natives X F) (table : List ManifestLists) (command : Command) (old new : ModuleTree) (r : Result (Unit {0}) DeclFault) → ChangesModule (infos_of info natives) table command old r new
    → table_held (length natives.items.items) table ≡ true → names_held (length natives.items.items) old ≡ true → names_held (length natives.items.items) new ≡ true
held_by_table info natives table command old new r goes =
    subst (λ (n : ℕ). table_held n table ≡ true → names_held n old ≡ true → names_held n new ≡ true) (infos_count info natives) (held_changed (infos_of info natives) table command old new r goes)

-- What refuses a command that changes one module by itself.

same_operand : (w : World) (m id : ModuleId) (more : List (ℕ × ℕ)) → Some m ≡ Some id → (m.0, length w.modules) ∷ more ≡ (id.0, length w.modules) ∷ more
same_operand w m id more e = let same : m ≡ id = cc in ap (λ (x : ModuleId). (x.0, length w.modules) ∷ more) same

iterator_alone : (w : World) (func : RhaiFunc) (iterator : IterId) → iter_fn_of func ≡ Some iterator → func_operands w func ≡ (iterator.0, w.engine.iterators) ∷ []
iterator_alone w (funcs.Iterator id) iterator is = let same : id ≡ iterator = cc in ap (λ (x : IterId). (x.0, w.engine.iterators) ∷ []) same
iterator_alone w (funcs.Pure id context pure volatile) iterator is = absurd cc
iterator_alone w (funcs.Method id context pure volatile) iterator is = absurd cc
iterator_alone w (funcs.Plugin id) iterator is = absurd cc
iterator_alone w (funcs.StaticPlugin id) iterator is = absurd cc
iterator_alone w (funcs.Script def env) iterator is = absurd cc

first_operand : (w : World) (f : Frame) (command : Command) (id : ModuleId) → target command ≡ Some id → (more : List (ℕ × ℕ)) × (operands w f command ≡ (id.0, length w.modules) ∷ more)
first_operand w f (commands.SetId m a) id at = ([], same_operand w m id [] at)
first_operand w f (commands.SetDoc m a) id at = ([], same_operand w m id [] at)
first_operand w f (commands.SetVar m a b) id at = ([], same_operand w m id [] at)
first_operand w f (commands.SetType m a b) id at = ([], same_operand w m id [] at)
first_operand w f (commands.Native m reg n) id at = ((n.0, length w.engine.natives) ∷ [], same_operand w m id ((n.0, length w.engine.natives) ∷ []) at)
first_operand w f (commands.RawNative m name namespace types func) id at = (func_operands w func, same_operand w m id (func_operands w func) at)
first_operand w f (commands.Script m def) id at = ([], same_operand w m id [] at)
first_operand w f (commands.CombineManifest m a) id at = ((a.0, length w.engine.manifests) ∷ [], same_operand w m id ((a.0, length w.engine.manifests) ∷ []) at)
first_operand w f (commands.RegisterLazy m) id at = ([], same_operand w m id [] at)
first_operand w f (commands.FromManifest a) id at = absurd cc
first_operand w f (commands.Index m) id at = ([], same_operand w m id [] at)
first_operand w f (commands.Clear m) id at = ([], same_operand w m id [] at)
first_operand w f commands.NewModule id at = absurd cc
first_operand w f (commands.SubModule m name sub) id at = absurd cc
first_operand w f (commands.Combine m other) id at = absurd cc
first_operand w f (commands.CombineFlatten m other) id at = absurd cc
first_operand w f (commands.Fill m other) id at = absurd cc
first_operand w f (commands.Merge m other) id at = absurd cc
first_operand w f (commands.RegisterFn name n) id at = absurd cc
first_operand w f (commands.RegisterRaw name types n) id at = absurd cc
first_operand w f (commands.RegisterType kind display) id at = absurd cc
first_operand w f (commands.GlobalModule m) id at = absurd cc
first_operand w f (commands.StaticModule name m) id at = absurd cc
first_operand w f (commands.PushLib m) id at = absurd cc
first_operand w f commands.PopLib id at = absurd cc
first_operand w f (commands.PushImport name m) id at = absurd cc
first_operand w f (commands.ImportPath name path) id at = absurd cc
first_operand w f commands.PopImport id at = absurd cc
first_operand w f (commands.SetSource source) id at = absurd cc
first_operand w f (commands.SetTag tag) id at = absurd cc
first_operand w f (commands.Call request) id at = absurd cc
first_operand w f (commands.Count m) id at = absurd cc
first_operand w f (commands.Contains m key) id at = absurd cc

-- its module isn't held
pub refused_target : (w : World) (f : Frame) (command : Command) (id : ModuleId) (n h : ℕ) → target command ≡ Some id → h ≡ length w.modules → length w.modules ≤ id.0 → n ≡ id.0 → Declares w f command (Refused (UnknownNumber n h)) w f
refused_target w f command id n h at eh past en = let o = first_operand w f command id at in refused_first w f command id.0 (length w.modules) n h o.0 o.1 en eh past

iterator_operand : (w : World) (f : Frame) (command : Command) (id : ModuleId) (iterator : IterId) → target command ≡ Some id → iterator_in command ≡ Some iterator → operands w f command ≡ (id.0, length w.modules) ∷ (iterator.0, w.engine.iterators) ∷ []
iterator_operand w f (commands.RawNative m name namespace types func) id iterator at is = same_operand w m id (func_operands w func) at ∙ ap (λ (os : List (ℕ × ℕ)). (id.0, length w.modules) ∷ os) (iterator_alone w func iterator is)
iterator_operand w f (commands.SetId m a) id iterator at is = absurd cc
iterator_operand w f (commands.SetDoc m a) id iterator at is = absurd cc
iterator_operand w f (commands.SetVar m a b) id iterator at is = absurd cc
iterator_operand w f (commands.SetType m a b) id iterator at is = absurd cc
iterator_operand w f (commands.Native m reg n) id iterator at is = absurd cc
iterator_operand w f (commands.Script m def) id iterator at is = absurd cc
iterator_operand w f (commands.CombineManifest m a) id iterator at is = absurd cc
iterator_operand w f (commands.RegisterLazy m) id iterator at is = absurd cc
iterator_operand w f (commands.FromManifest a) id iterator at is = absurd cc
iterator_operand w f (commands.Index m) id iterator at is = absurd cc
iterator_operand w f (commands.Clear m) id iterator at is = absurd cc
iterator_operand w f commands.NewModule id iterator at is = absurd cc
iterator_operand w f (commands.SubModule m name sub) id iterator at is = absurd cc
iterator_operand w f (commands.Combine m other) id iterator at is = absurd cc
iterator_operand w f (commands.CombineFlatten m other) id iterator at is = absurd cc
iterator_operand w f (commands.Fill m other) id iterator at is = absurd cc
iterator_operand w f (commands.Merge m other) id iterator at is = absurd cc
iterator_operand w f (commands.RegisterFn name n) id iterator at is = absurd cc
iterator_operand w f (commands.RegisterRaw name types n) id iterator at is = absurd cc
iterator_operand w f (commands.RegisterType kind display) id iterator at is = absurd cc
iterator_operand w f (commands.GlobalModule m) id iterator at is = absurd cc
iterator_operand w f (commands.StaticModule name m) id iterator at is = absurd cc
iterator_operand w f (commands.PushLib m) id iterator at is = absurd cc
iterator_operand w f commands.PopLib id iterator at is = absurd cc
iterator_operand w f (commands.PushImport name m) id iterator at is = absurd cc
iterator_operand w f (commands.ImportPath name path) id iterator at is = absurd cc
iterator_operand w f commands.PopImport id iterator at is = absurd cc
iterator_operand w f (commands.SetSource source) id iterator at is = absurd cc
iterator_operand w f (commands.SetTag tag) id iterator at is = absurd cc
iterator_operand w f (commands.Call request) id iterator at is = absurd cc
iterator_operand w f (commands.Count m) id iterator at is = absurd cc
iterator_operand w f (commands.Contains m key) id iterator at is = absurd cc

-- a function that iterates is held by no engine yet
pub iterator_refused : (w : World) (f : Frame) (command : Command) (id : ModuleId) (iterator : IterId) → target command ≡ Some id → id.0 < length w.modules → iterator_in command ≡ Some iterator → w.engine.iterators ≡ 0
    → Declares w f command (Refused (UnknownNumber iterator.0 0)) w f
iterator_refused w f command id iterator at below is none =
    refused_second w f command id.0 (length w.modules) iterator.0 w.engine.iterators iterator.0 0 [] (iterator_operand w f command id iterator at is) below refl (sym none) (omega (arith, none))
