-- Commands that change the first global module, or put one module into another.
use Rattle.std.proofs.Common.{◌≡◌, ℕ, true, List, [], ◌∷◌, length, refl, sym, ap, subst, ◌∙◌, arith}
use Rattle.std.specs.Prelude.{Option, Some, None, Result, Ok, Err, OnOk, OnErr, map, take, slice_get, slice_set, option_map, option_and_then}
use Rattle.std.specs.Option.{option_or}
use Rattle.std.proofs.lemmas.Option.{slice_get_within}
use Rattle.rhd_value.specs.Tree.{Bytes}
use Rattle.rhd_value.specs.Firsts.{first_some}
use Rattle.rhd_value.specs.declared.tag.FnId.{FnId}
use Rattle.rhd_value.specs.declared.tag.TypeTag.{TypeTag}
use Rattle.rhd_hash.specs.declared.key.Key.{Key}
use Rattle.rhd_func.specs.declared.func.RhaiFunc.{RhaiFunc}
use Rattle.rhd_decl.specs.declared.declaration.Declaration.{Declaration}
use Rattle.rhd_decl.specs.declared.fault.DeclFault.{DeclFault}
use Rattle.rhd_decl.specs.declared.fault.DeclFault.TheVariants.{HashCollision, IndexerNotAllowed, NotCallable, UnknownNumber, OutOfMemory as no_memory}
use Rattle.rhd_module.specs.Tree.{ModuleTree}
use Rattle.rhd_value.specs.declared.tag.TypeTag.TheVariants.{Custom}
use Rattle.rhd_value.specs.Kinds.{type_name}
use Rattle.rhd_func.specs.declared.access.FnNamespace.TheVariants.{Global}
use Rattle.rhd_decl.specs.declared.registration.FuncRegistration.{FuncRegistration}
use Rattle.rhd_module.specs.Contents.{with_sub, with_type}
use Rattle.std.specs.Map.{keys_of}
use Rattle.rhd_decl.specs.NativeKeys.{native_key}
use Rattle.rhd_table.specs.Pairs.{put}
use Rattle.rhd_module.specs.Registered.{with_decl, Puts}
use Rattle.rhd_decl.specs.Registration.{unheld, native_at, native_decl, registered_decl}
use Rattle.rhd_engine.specs.Engine.{Frame}
use Rattle.rhd_layers.specs.FirstModule.{in_first, InFirst, RegistersFirst, RegistersRawFirst}
use Rattle.rhd_engine.specs.Registered.{fn_registration, raw_func}
use Rattle.rhd_call.specs.declared.command.Command.{Command}
use Rattle.rhd_call.specs.declared.command.ModuleId.{ModuleId}
use Rattle.rhd_call.specs.declared.command.Command.TheVariants as commands
use Rattle.rhd_call.specs.declared.reply.Reply.TheVariants.{Done}
use Rattle.rhd_machine.specs.World.{World}
use Rattle.rhd_session.specs.Commands.{cause, change, eager_keys, without_keys, with_module, changed_first, with_globals, indexer_not_allowed, raw_registration}
use Rattle.rhd_session.specs.Answered.{Declares, refused, collided}
use Rattle.rhd_session.specs.Changing.{Goes}
use Rattle.rhd_engine.specs.Held.{names_held, all_held}
use Rattle.rhd_engine.proofs.HeldLaws.{type_first_held, first_count}
use Rattle.rhd_engine.proofs.HeldTrees.{sub_held}
use Rattle.rhd_module.proofs.Fills.{none_clash}
use Rattle.rhd_session.proofs.Declared.{none_refuses, two_held, done_in}

-- a declaration is put into the first of these modules
abbrev PutsFirst : Option DeclFault → (ModuleTree → Key) → (ModuleTree → Declaration) → List ModuleTree → Result (Unit {0}) DeclFault → List ModuleTree → Type 0
PutsFirst known k d old r new = InFirst (λ m changed. Puts known (k m) (d m) m r changed) old new

abbrev in_globals : World → List ModuleTree → World
in_globals w globals = record w { engine = record w.engine { globals = globals } }

module _ (w : World) (f : Frame) (command : Command) (k : ModuleTree → Key) (d : ModuleTree → Declaration) (known : Option DeclFault) (caused : cause w f command ≡ known) where
  first_step : (m changed : ModuleTree) (ms : List ModuleTree) (r : Result (Unit {0}) DeclFault) → w.engine.globals ≡ m ∷ ms
      → change w f command ≡ Some (with_globals w f (with_decl (k m) (d m) m ∷ ms) (eager_keys (with_decl (k m) (d m) m) ∷ [])) → Puts known (k m) (d m) m r changed → Goes w f command r (in_globals w (changed ∷ ms)) f
  first_step m changed ms (Ok u) is changes puts =
      done_in w (in_globals w (changed ∷ ms)) f f command (with_globals w f (with_decl (k m) (d m) m ∷ ms) (eager_keys (with_decl (k m) (d m) m) ∷ [])) (caused ∙ puts.0) changes (none_clash m.own.seeds (keys_of (put (k m) (d m) m.own.eager)) puts.1, tt)
      (ap (λ (x : ModuleTree). in_globals w (x ∷ ms)) puts.2) refl
  first_step m changed ms (Err no_memory) is changes puts = (ap (λ (x : ModuleTree). in_globals w (x ∷ ms)) puts ∙ ap (in_globals w) (sym is), refl)
  first_step m changed ms (Err (HashCollision held other)) is changes puts =
      subst (λ (x : World). Goes w f command (Err (HashCollision held other)) x f) (sym (ap (λ (x : ModuleTree). in_globals w (x ∷ ms)) puts.2 ∙ ap (in_globals w) (sym is)))
      (collided (caused ∙ puts.0) changes (0, omega arith, refl) puts.1)
  first_step m changed ms (Err (IndexerNotAllowed key)) is changes puts =
      subst (λ (x : World). Goes w f command (Err (IndexerNotAllowed key)) x f) (sym (ap (λ (x : ModuleTree). in_globals w (x ∷ ms)) puts.1 ∙ ap (in_globals w) (sym is))) (refused (caused ∙ puts.0))
  first_step m changed ms (Err NotCallable) is changes puts =
      subst (λ (x : World). Goes w f command (Err NotCallable) x f) (sym (ap (λ (x : ModuleTree). in_globals w (x ∷ ms)) puts.1 ∙ ap (in_globals w) (sym is))) (refused (caused ∙ puts.0))
  first_step m changed ms (Err (UnknownNumber number count)) is changes puts =
      subst (λ (x : World). Goes w f command (Err (UnknownNumber number count)) x f) (sym (ap (λ (x : ModuleTree). in_globals w (x ∷ ms)) puts.1 ∙ ap (in_globals w) (sym is))) (refused (caused ∙ puts.0))

  first_goes : (globals new : List ModuleTree) (r : Result (Unit {0}) DeclFault) → w.engine.globals ≡ globals → change w f command ≡ Some (changed_first w f (λ m. with_decl (k m) (d m) m)) → PutsFirst known k d globals r new
      → Goes w f command r (in_globals w new) f
  first_goes [] new r is changes puts = absurd puts
  first_goes (m ∷ ms) new r is changes puts =
      let made : change w f command ≡ Some (with_globals w f (with_decl (k m) (d m) m ∷ ms) (eager_keys (with_decl (k m) (d m) m) ∷ [])) =
      changes ∙ ap (λ (gs : List ModuleTree). let globals = in_first (λ m. with_decl (k m) (d m) m) gs in Some (with_globals w f globals (map eager_keys (take 1 globals)))) is in
      subst (λ (gs : List ModuleTree). Goes w f command r (in_globals w gs) f) (sym puts.2) (first_step m puts.0 ms r is made puts.1)

or_none : (o : Option DeclFault) → option_or o None ≡ o
or_none None = refl
or_none (Some fault) = refl

-- a native's number and an indexer are all that refuses a registration for all calls
fn_caused : (w : World) (f : Frame) (name : Bytes) (id : FnId) → cause w f (commands.RegisterFn name id) ≡ first_some (unheld w.engine.natives (Some id) ∷ indexer_not_allowed w.engine.natives w.engine.manifests (commands.RegisterFn name id) ∷ [])
fn_caused w f name id = ap (λ (u : Option DeclFault). first_some (u ∷ indexer_not_allowed w.engine.natives w.engine.manifests (commands.RegisterFn name id) ∷ [])) (or_none (unheld w.engine.natives (Some id)))

raw_caused : (w : World) (f : Frame) (name : Bytes) (types : List TypeTag) (id : FnId)
    → cause w f (commands.RegisterRaw name types id) ≡ first_some (unheld w.engine.natives (Some id) ∷ None ∷ indexer_not_allowed w.engine.natives w.engine.manifests (commands.RegisterRaw name types id) ∷ [])
raw_caused w f name types id = ap (λ (u : Option DeclFault). first_some (u ∷ None ∷ indexer_not_allowed w.engine.natives w.engine.manifests (commands.RegisterRaw name types id) ∷ [])) (or_none (unheld w.engine.natives (Some id)))

pub fn_goes : (w w2 : World) (f : Frame) (name : Bytes) (id : FnId) (reg : FuncRegistration) (new : List ModuleTree) (r : Result (Unit {0}) DeclFault) → reg ≡ fn_registration w.engine.natives name id → RegistersFirst w.engine.natives reg id w.engine.globals r new
    → w2 ≡ in_globals w new → Goes w f (commands.RegisterFn name id) r w2 f
fn_goes w w2 f name id reg new r e is made =
    let natives = w.engine.natives in
    let info = native_at natives id in
    let told = fn_registration natives name id in
    subst (λ (x : World). Goes w f (commands.RegisterFn name id) r x f) (sym made)
    (first_goes w f (commands.RegisterFn name id) (λ m. native_key info.is_method name info.types) (λ m. registered_decl m.own.seeds told info id) _ (fn_caused w f name id) w.engine.globals new r refl refl
    (subst (λ (x : FuncRegistration). RegistersFirst natives x id w.engine.globals r new) e is))

pub raw_goes : (w w2 : World) (f : Frame) (name : Bytes) (types lent : List TypeTag) (id : FnId) (reg : FuncRegistration) (func : RhaiFunc) (new : List ModuleTree) (r : Result (Unit {0}) DeclFault) → reg ≡ raw_registration name Global → lent ≡ types → func ≡ raw_func name lent id
    → RegistersRawFirst w.engine.natives reg lent func w.engine.globals r new → w2 ≡ in_globals w new → Goes w f (commands.RegisterRaw name types id) r w2 f
raw_goes w w2 f name types lent id reg func new r er et ef is made =
    let natives = w.engine.natives in
    let told = raw_registration name Global in
    let method = raw_func name types id in
    let as_told = subst (λ (x : FuncRegistration). RegistersRawFirst natives x lent func w.engine.globals r new) er is in
    let of_method = subst (λ (x : RhaiFunc). RegistersRawFirst natives told lent x w.engine.globals r new) ef as_told in
    let of_types = subst (λ (ts : List TypeTag). RegistersRawFirst natives told ts (raw_func name ts id) w.engine.globals r new) et of_method in
    subst (λ (x : World). Goes w f (commands.RegisterRaw name types id) r x f) (sym made)
    (first_goes w f (commands.RegisterRaw name types id) (λ m. native_key true name types) (λ m. native_decl m.own.seeds told true types method) _ (raw_caused w f name types id) w.engine.globals new r refl refl of_types)

-- a type is shown otherwise in the first global module
pub type_goes : (w w2 : World) (f : Frame) (kind : ℕ) (display : Bytes) (new : List ModuleTree) → new ≡ in_first (with_type (type_name (Custom kind)) display []) w.engine.globals → w2 ≡ in_globals w new → Declares w f (commands.RegisterType kind display) Done w2 f
type_goes w w2 f kind display new is made =
    done_in w w2 f f (commands.RegisterType kind display) (with_globals w f (in_first (with_type (type_name (Custom kind)) display []) w.engine.globals) []) refl refl tt (made ∙ ap (in_globals w) is) refl

-- one module is put into another
pub sub_goes : (w w2 : World) (f : Frame) (id sub : ModuleId) (name : Bytes) (old child new : ModuleTree) → slice_get w.modules id.0 ≡ Some old → slice_get w.modules sub.0 ≡ Some child → new ≡ with_sub name child old
    → w2 ≡ record w { modules = slice_set w.modules id.0 new } → Declares w f (commands.SubModule id name sub) Done w2 f
sub_goes w w2 f id sub name old child new is from puts made =
    let none = none_refuses w f (commands.SubModule id name sub) (two_held id.0 (length w.modules) sub.0 (length w.modules) (slice_get_within w.modules id.0 old is) (slice_get_within w.modules sub.0 child from)) refl refl in
    let changes : change w f (commands.SubModule id name sub) ≡ Some (with_module w f id (without_keys (with_sub name child old))) =
    ap (option_and_then (λ c. option_map (λ o. with_module w f id (without_keys (with_sub name c o))) (slice_get w.modules id.0))) from ∙ ap (option_map (λ o. with_module w f id (without_keys (with_sub name child o)))) is in
    done_in w w2 f f (commands.SubModule id name sub) (with_module w f id (without_keys (with_sub name child old))) none changes tt (made ∙ ap (λ (m : ModuleTree). record w { modules = slice_set w.modules id.0 m }) puts) refl

-- whether or not a sub-module is put
pub sub_either : {E : Type 0} (r : Result (Unit {0}) E) (n : ℕ) (name : Bytes) (child old new : ModuleTree) → OnOk r (new ≡ with_sub name child old) → OnErr r (new ≡ old) → names_held n child ≡ true → names_held n old ≡ true → names_held n new ≡ true
sub_either (Ok u) n name child old new ok err held all = ap (names_held n) ok ∙ sub_held n name child old held all
sub_either (Err e) n name child old new ok err held all = ap (names_held n) err ∙ all

-- whether or not a type is shown otherwise
pub type_either : {E : Type 0} (r : Result (Unit {0}) E) (n : ℕ) (type_name display : Bytes) (old new : List ModuleTree) → OnOk r (new ≡ in_first (with_type type_name display []) old) → OnErr r (new ≡ old)
    → (all_held n old ≡ true → all_held n new ≡ true) × (length new ≡ length old)
type_either (Ok u) n type_name display old new ok err = (λ all. ap (all_held n) ok ∙ type_first_held n type_name display [] old ∙ all, ap length ok ∙ first_count (with_type type_name display []) old)
type_either (Err e) n type_name display old new ok err = (λ all. ap (all_held n) err ∙ all, ap length err)

-- the world with the same global modules
pub globals_left : (w : World) (new : List ModuleTree) → new ≡ w.engine.globals → in_globals w new ≡ w
globals_left w new same = ap (in_globals w) same
