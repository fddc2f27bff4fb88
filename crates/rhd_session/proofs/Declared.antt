-- What the commands that declare something answer and leave.
use Rattle.std.proofs.Common.{◌≡◌, ◌≤◌, ◌<◌, ℕ, Bool, true, false, not, List, [], ◌∷◌, ◌++◌, length, refl, sym, ap, subst, ◌∙◌, get_or, arith}
use Rattle.std.specs.Prelude.{zero, suc, Option, Some, None, Result, Ok, Err, IfOk, OnErr, nat_lt, map, slice_get, slice_set, option_map}
use Rattle.std.specs.List.{AllByRecursion, Contains}
use Rattle.std.specs.Map.{keys_of}
use Rattle.std.specs.Option.{option_or}
use Rattle.std.proofs.lemmas.Bool.{lt-ltb, le-ltb}
use Rattle.std.proofs.lemmas.Option.{slice_get_within}
use Rattle.rhd_value.specs.Tree.{Bytes, Tree}
use Rattle.rhd_value.specs.Firsts.{first_of, first_some, where_holds}
use Rattle.rhd_value.specs.declared.memory.OutOfMemory.{OutOfMemory}
use Rattle.rhd_decl.specs.declared.fault.DeclFault.{DeclFault}
use Rattle.rhd_decl.specs.declared.fault.DeclFault.TheVariants.{HashCollision, IndexerNotAllowed, NotCallable, UnknownNumber, OutOfMemory as no_memory}
use Rattle.rhd_module.specs.Tree.{ModuleTree, empty_module}
use Rattle.rhd_module.specs.Walk.{tree}
use Rattle.rhd_table.specs.Indexed.{NoneClash}
use Rattle.rhd_module.specs.Index.{Indexes, indexed}
use Rattle.rhd_engine.specs.Engine.{Frame, Imports}
use Rattle.rhd_layers.specs.Lists.{second}
use Rattle.rhd_layers.specs.Statics.{with_static, made_static, Places}
use Rattle.rhd_call.specs.declared.command.Command.{Command}
use Rattle.rhd_call.specs.declared.command.ModuleId.{ModuleId}
use Rattle.rhd_call.specs.declared.command.Command.TheVariants as commands
use Rattle.rhd_call.specs.declared.reply.Reply.{Reply}
use Rattle.rhd_call.specs.declared.reply.Reply.TheVariants.{Done, Made, Refused}
use Rattle.rhd_machine.specs.World.{World}
use Rattle.rhd_session.specs.Commands.{cause, change, Change, tree_keys, with_imports, with_globals, with_statics, operands, pop_operand, unknown_of, not_callable, indexer_not_allowed, with_globals, with_libs, with_frame, but_last}
use Rattle.rhd_session.specs.Answered.{Declares, refused, collided, done, NoClash}
use Rattle.rhd_session.specs.Changing.{Goes, IsReply}

-- Replies.

-- an answer as a reply
pub replied : (w w2 : World) (f f2 : Frame) (command : Command) (r : Result (Unit {0}) DeclFault) (p : Result Reply OutOfMemory) → IsReply r p → Goes w f command r w2 f2 → IfOk p (λ reply. Declares w f command reply w2 f2) × OnErr p ((w2 ≡ w) × (f2 ≡ f))
replied w w2 f f2 command (Ok u) (Ok reply) is goes = (subst (λ (x : Reply). Declares w f command x w2 f2) (sym is) goes, tt)
replied w w2 f f2 command (Ok u) (Err e) is goes = absurd is
replied w w2 f f2 command (Err no_memory) (Ok reply) is goes = absurd is
replied w w2 f f2 command (Err no_memory) (Err e) is goes = (tt, goes)
replied w w2 f f2 command (Err (HashCollision held new)) (Ok reply) is goes = (subst (λ (x : Reply). Declares w f command x w2 f2) (sym is) goes, tt)
replied w w2 f f2 command (Err (HashCollision held new)) (Err e) is goes = absurd is
replied w w2 f f2 command (Err (IndexerNotAllowed key)) (Ok reply) is goes = (subst (λ (x : Reply). Declares w f command x w2 f2) (sym is) goes, tt)
replied w w2 f f2 command (Err (IndexerNotAllowed key)) (Err e) is goes = absurd is
replied w w2 f f2 command (Err NotCallable) (Ok reply) is goes = (subst (λ (x : Reply). Declares w f command x w2 f2) (sym is) goes, tt)
replied w w2 f f2 command (Err NotCallable) (Err e) is goes = absurd is
replied w w2 f f2 command (Err (UnknownNumber number count)) (Ok reply) is goes = (subst (λ (x : Reply). Declares w f command x w2 f2) (sym is) goes, tt)
replied w w2 f f2 command (Err (UnknownNumber number count)) (Err e) is goes = absurd is

-- a number that isn't held, as an answer
pub goes_refused : {w2 : World} {f2 : Frame} (w : World) (f : Frame) (command : Command) (fault : DeclFault) (number held : ℕ) → fault ≡ UnknownNumber number held → Declares w f command (Refused (UnknownNumber number held)) w2 f2 → Goes w f command (Err fault) w2 f2
goes_refused {w2} {f2} w f command fault number held is d = subst (λ (x : DeclFault). Goes w f command (Err x) w2 f2) (sym is) d

-- the same as a reply
pub told_refused : {w2 : World} {f2 : Frame} (w : World) (f : Frame) (command : Command) (fault : DeclFault) (number held : ℕ) → fault ≡ UnknownNumber number held → Declares w f command (Refused (UnknownNumber number held)) w2 f2 → Declares w f command (Refused fault) w2 f2
told_refused {w2} {f2} w f command fault number held is d = subst (λ (x : DeclFault). Declares w f command (Refused x) w2 f2) (sym is) d

-- Numbers that aren't held.

-- an unknown number is the cause
by_unknown : (w : World) (f : Frame) (command : Command) (fault : DeclFault) → first_of unknown_of (operands w f command) ≡ Some fault → cause w f command ≡ Some fault
by_unknown w f command fault is = ap (λ (u : Option DeclFault). first_some (u ∷ not_callable command ∷ indexer_not_allowed w.engine.natives w.engine.manifests command ∷ [])) is

first_unknown : (number held : ℕ) (more : List (ℕ × ℕ)) (below : Bool) → nat_lt number held ≡ below → below ≡ false → first_of unknown_of ((number, held) ∷ more) ≡ Some (UnknownNumber number held)
first_unknown number held more true is e = absurd cc
first_unknown number held more false is e = ap (λ (b : Bool). option_or (where_holds (not b) (UnknownNumber number held)) (first_of unknown_of more)) is

-- the first operand isn't held
pub refused_first : (w : World) (f : Frame) (command : Command) (number held n h : ℕ) (more : List (ℕ × ℕ)) → operands w f command ≡ (number, held) ∷ more → n ≡ number → h ≡ held → held ≤ number → Declares w f command (Refused (UnknownNumber n h)) w f
refused_first w f command number held n h more is en eh past =
    let found : cause w f command ≡ Some (UnknownNumber number held) = by_unknown w f command (UnknownNumber number held) (ap (first_of unknown_of) is ∙ first_unknown number held more (nat_lt number held) refl (le-ltb number held past)) in
    refused (found ∙ (λ i. Some (UnknownNumber (sym en i) (sym eh i))))

passed : (number held : ℕ) (more : List (ℕ × ℕ)) (below : Bool) → nat_lt number held ≡ below → below ≡ true → first_of unknown_of ((number, held) ∷ more) ≡ first_of unknown_of more
passed number held more true is e = ap (λ (b : Bool). option_or (where_holds (not b) (UnknownNumber number held)) (first_of unknown_of more)) is
passed number held more false is e = absurd cc

-- the second isn't
pub refused_second : (w : World) (f : Frame) (command : Command) (first all number held n h : ℕ) (more : List (ℕ × ℕ)) → operands w f command ≡ (first, all) ∷ (number, held) ∷ more → first < all → n ≡ number → h ≡ held → held ≤ number
    → Declares w f command (Refused (UnknownNumber n h)) w f
refused_second w f command first all number held n h more is below en eh past =
    let found : cause w f command ≡ Some (UnknownNumber number held) =
    by_unknown w f command (UnknownNumber number held)
    (ap (first_of unknown_of) is ∙ passed first all ((number, held) ∷ more) (nat_lt first all) refl (lt-ltb first all below) ∙ first_unknown number held more (nat_lt number held) refl (le-ltb number held past)) in
    refused (found ∙ (λ i. Some (UnknownNumber (sym en i) (sym eh i))))

-- all operands are held, and nothing else refuses the command
pub none_refuses : (w : World) (f : Frame) (command : Command) → first_of unknown_of (operands w f command) ≡ None → not_callable command ≡ None → indexer_not_allowed w.engine.natives w.engine.manifests command ≡ None → cause w f command ≡ None
none_refuses w f command unknown callable allowed = λ i. first_some (unknown i ∷ callable i ∷ allowed i ∷ [])

pub one_held : (number held : ℕ) → number < held → first_of unknown_of ((number, held) ∷ []) ≡ None
one_held number held below = passed number held [] (nat_lt number held) refl (lt-ltb number held below)

pub two_held : (first all number held : ℕ) → first < all → number < held → first_of unknown_of ((first, all) ∷ (number, held) ∷ []) ≡ None
two_held first all number held below under = passed first all ((number, held) ∷ []) (nat_lt first all) refl (lt-ltb first all below) ∙ one_held number held under

-- what stands at a place
pub at_place : (ms : List ModuleTree) (i : ℕ) (m : ModuleTree) → i < length ms → m ≡ get_or ms i m → slice_get ms i ≡ Some m
at_place [] i m h is = absurd (omega arith)
at_place (x ∷ ms) zero m h is = ap Some (sym is)
at_place (x ∷ ms) (suc i) m h is = at_place ms i m (omega arith) is

-- where nothing stands, the list has ended
pub past_all : (ms : List ModuleTree) (i : ℕ) → slice_get ms i ≡ None → length ms ≤ i
past_all [] i none = omega arith
past_all (x ∷ ms) zero none = absurd cc
past_all (x ∷ ms) (suc i) none = let rest = past_all ms i none in omega (arith, rest)

-- the same put there changes nothing
pub set_there : (ms : List ModuleTree) (i : ℕ) (m : ModuleTree) → slice_get ms i ≡ Some m → slice_set ms i m ≡ ms
set_there [] i m is = refl
set_there (x ∷ ms) zero m is = let same : x ≡ m = cc in ap (λ (y : ModuleTree). y ∷ ms) (sym same)
set_there (x ∷ ms) (suc i) m is = ap (λ (ns : List ModuleTree). x ∷ ns) (set_there ms i m is)

-- a command that is done, where the world and the frame are equal ones
pub done_in : (w w2 : World) (f f2 : Frame) (command : Command) (c : Change) → cause w f command ≡ None → change w f command ≡ Some c → AllByRecursion NoClash c.tables → w2 ≡ c.world → f2 ≡ c.frame → Declares w f command c.reply w2 f2
done_in w w2 f f2 command c none changes clear ew ef =
    subst (λ (x : World). Declares w f command c.reply x f2) (sym ew) (subst (λ (x : Frame). Declares w f command c.reply c.world x) (sym ef) (done none changes clear))

-- the tables of trees in which no two keys clash, and one of them
clear_keys : (ms : List ModuleTree) → AllByRecursion (λ m. NoneClash m.own.seeds (keys_of (tree m))) ms → AllByRecursion NoClash (map tree_keys ms)
clear_keys [] all = tt
clear_keys (m ∷ ms) all = (all.0, clear_keys ms all.1)

keyed_there : (ms : List ModuleTree) (m : ModuleTree) → Contains ms m → Contains (map tree_keys ms) (tree_keys m)
keyed_there [] m (i, within, is) = absurd (omega (arith, within))
keyed_there (x ∷ ms) m (zero, within, is) = (0, omega arith, ap tree_keys is)
keyed_there (x ∷ ms) m (suc i, within, is) = let h = keyed_there ms m (i, omega (arith, within), is) in (suc h.0, omega (arith, h.1), h.2)

-- Commands on libraries, and questions.

pub push_goes : (w : World) (f f2 : Frame) (id : ModuleId) (added : ModuleTree) → slice_get w.modules id.0 ≡ Some added → f2 ≡ record f { lib = f.lib ++ added ∷ [] } → Declares w f (commands.PushLib id) Done w f2
push_goes w f f2 id added is made =
    let none = none_refuses w f (commands.PushLib id) (one_held id.0 (length w.modules) (slice_get_within w.modules id.0 added is)) refl refl in
    done_in w w f f2 (commands.PushLib id) (with_libs w f (f.lib ++ added ∷ [])) none (ap (option_map (λ m. with_libs w f (f.lib ++ m ∷ []))) is) tt refl made

pub source_goes : (w : World) (f f2 : Frame) (source : Option Bytes) → f2 ≡ record f { source = source } → Declares w f (commands.SetSource source) Done w f2
source_goes w f f2 source made = done_in w w f f2 (commands.SetSource source) (with_frame w (record f { source = source })) refl refl tt refl made

pub tag_goes : (w : World) (f f2 : Frame) (tag : Tree) → f2 ≡ record f { tag = tag } → Declares w f (commands.SetTag tag) Done w f2
tag_goes w f f2 tag made = done_in w w f f2 (commands.SetTag tag) (with_frame w (record f { tag = tag })) refl refl tt refl made

pub made_goes : (w w2 : World) (f : Frame) (id : ModuleId) → id.0 ≡ length w.modules → w2 ≡ record w { modules = w.modules ++ empty_module w.engine.seeds ∷ [] } → Declares w f commands.NewModule (Made id) w2 f
made_goes w w2 f id n made =
    let same : id ≡ record { 0 = length w.modules } = λ i. record { 0 = n i } in
    subst (λ (x : ModuleId). Declares w f commands.NewModule (Made x) w2 f) (sym same)
    (subst (λ (x : World). Declares w f commands.NewModule (Made (record { 0 = length w.modules })) x f) (sym made) (done refl refl tt))

but_last_push : {A : Type 0} (ms : List A) (m : A) → but_last (ms ++ m ∷ []) ≡ ms
but_last_push [] m = refl
but_last_push (x ∷ []) m = refl
but_last_push {A} (x ∷ y ∷ ms) m = ap (λ (ns : List A). x ∷ ns) (but_last_push (y ∷ ms) m)

one_left : {A : Type 0} (libs : List A) (m : A) → first_of unknown_of (pop_operand (libs ++ m ∷ [])) ≡ None
one_left [] m = refl
one_left (x ∷ libs) m = refl

pub pop_goes : (w : World) (f f2 : Frame) (libs : List ModuleTree) (m : ModuleTree) → f.lib ≡ libs ++ m ∷ [] → f2 ≡ record f { lib = libs } → Declares w f commands.PopLib Done w f2
pop_goes w f f2 libs m is made =
    let none = none_refuses w f commands.PopLib (ap (λ (ms : List ModuleTree). first_of unknown_of (pop_operand ms)) is ∙ one_left libs m) refl refl in
    let left : but_last f.lib ≡ libs = ap but_last is ∙ but_last_push libs m in
    done_in w w f f2 commands.PopLib (with_libs w f (but_last f.lib)) none refl tt refl (made ∙ ap (λ (ms : List ModuleTree). record f { lib = ms }) (sym left))

pub pop_refused : (w : World) (f f2 : Frame) → f.lib ≡ [] → f2 ≡ f → Declares w f commands.PopLib (Refused (UnknownNumber 0 0)) w f2
pop_refused w f f2 none same =
    let found : cause w f commands.PopLib ≡ Some (UnknownNumber 0 0) = by_unknown w f commands.PopLib (UnknownNumber 0 0) (ap (λ (ms : List ModuleTree). first_of unknown_of (pop_operand ms)) none) in
    subst (λ (x : Frame). Declares w f commands.PopLib (Refused (UnknownNumber 0 0)) w x) (sym same) (refused found)

-- Commands on imports, on global modules and on static modules.

pub import_goes : (w : World) (f f2 : Frame) (name : Bytes) (id : ModuleId) (m new : ModuleTree) → slice_get w.modules id.0 ≡ Some m → Indexes {A = Unit {0}} m (Ok tt) new → f2 ≡ record f { imports = f.imports ++ (name, new) ∷ [] }
    → Declares w f (commands.PushImport name id) Done w f2
import_goes w f f2 name id m new is does made =
    let none = none_refuses w f (commands.PushImport name id) (one_held id.0 (length w.modules) (slice_get_within w.modules id.0 m is)) refl refl in
    let c = with_imports w f (f.imports ++ (name, indexed m) ∷ []) (tree_keys m ∷ []) in
    done_in w w f f2 (commands.PushImport name id) c none (ap (option_map (λ a. with_imports w f (f.imports ++ (name, indexed a) ∷ []) (tree_keys a ∷ []))) is) (does.0, tt) refl
    (made ∙ ap (λ (x : ModuleTree). record f { imports = f.imports ++ (name, x) ∷ [] }) does.1)

-- a module whose index isn't built is no import
pub import_refused : (w : World) (f : Frame) (name : Bytes) (id : ModuleId) (m new : ModuleTree) (fault : DeclFault) → slice_get w.modules id.0 ≡ Some m → Indexes {A = Unit {0}} m (Err fault) new → Goes w f (commands.PushImport name id) (Err fault) w f
import_refused w f name id m new (HashCollision held other) is does =
    let none = none_refuses w f (commands.PushImport name id) (one_held id.0 (length w.modules) (slice_get_within w.modules id.0 m is)) refl refl in
    collided none (ap (option_map (λ a. with_imports w f (f.imports ++ (name, indexed a) ∷ []) (tree_keys a ∷ []))) is) (0, omega arith, refl) does.0
import_refused w f name id m new no_memory is does = (refl, refl)
import_refused w f name id m new (IndexerNotAllowed key) is does = absurd does
import_refused w f name id m new NotCallable is does = absurd does
import_refused w f name id m new (UnknownNumber number count) is does = absurd does

pub pop_import_goes : (w : World) (f f2 : Frame) (imports : Imports) (last : Bytes × ModuleTree) → f.imports ≡ imports ++ last ∷ [] → f2 ≡ record f { imports = imports } → Declares w f commands.PopImport Done w f2
pop_import_goes w f f2 imports last is made =
    let none = none_refuses w f commands.PopImport (ap (λ (es : Imports). first_of unknown_of (pop_operand es)) is ∙ one_left imports last) refl refl in
    let left : but_last f.imports ≡ imports = ap but_last is ∙ but_last_push imports last in
    done_in w w f f2 commands.PopImport (with_imports w f (but_last f.imports) []) none refl tt refl (made ∙ ap (λ (es : Imports). record f { imports = es }) (sym left))

pub pop_import_refused : (w : World) (f f2 : Frame) → f.imports ≡ [] → f2 ≡ f → Declares w f commands.PopImport (Refused (UnknownNumber 0 0)) w f2
pop_import_refused w f f2 none same =
    let found : cause w f commands.PopImport ≡ Some (UnknownNumber 0 0) = by_unknown w f commands.PopImport (UnknownNumber 0 0) (ap (λ (es : Imports). first_of unknown_of (pop_operand es)) none) in
    subst (λ (x : Frame). Declares w f commands.PopImport (Refused (UnknownNumber 0 0)) w x) (sym same) (refused found)

pub global_goes : (w w2 : World) (f : Frame) (id : ModuleId) (m : ModuleTree) → slice_get w.modules id.0 ≡ Some m → w2 ≡ record w { engine = record w.engine { globals = second m w.engine.globals } } → Declares w f (commands.GlobalModule id) Done w2 f
global_goes w w2 f id m is made =
    let none = none_refuses w f (commands.GlobalModule id) (one_held id.0 (length w.modules) (slice_get_within w.modules id.0 m is)) refl refl in
    done_in w w2 f f (commands.GlobalModule id) (with_globals w f (second m w.engine.globals) []) none (ap (option_map (λ a. with_globals w f (second a w.engine.globals) [])) is) tt made refl

-- what registering a static module answers, as an answer of the session
pub static_goes : (w : World) (f : Frame) (name : Bytes) (id : ModuleId) (m : ModuleTree) (new : Imports) (r : Result (Unit {0}) DeclFault) → slice_get w.modules id.0 ≡ Some m → Places w.engine.seeds name m w.engine.statics r new
    → Goes w f (commands.StaticModule name id) r (record w { engine = record w.engine { statics = new } }) f
static_goes w f name id m new r is places =
    let none = none_refuses w f (commands.StaticModule name id) (one_held id.0 (length w.modules) (slice_get_within w.modules id.0 m is)) refl refl in
    let tables = made_static w.engine.seeds name m w.engine.statics in
    let changes : change w f (commands.StaticModule name id) ≡ Some (with_statics w f (with_static w.engine.seeds name m w.engine.statics) (map tree_keys tables)) =
    ap (option_map (λ a. with_statics w f (with_static w.engine.seeds name a w.engine.statics) (map tree_keys (made_static w.engine.seeds name a w.engine.statics)))) is in
    by none changes r places
  where
    put_in : Imports → World
    put_in es = record w { engine = record w.engine { statics = es } }

    by : cause w f (commands.StaticModule name id) ≡ None → change w f (commands.StaticModule name id) ≡ Some (with_statics w f (with_static w.engine.seeds name m w.engine.statics) (map tree_keys (made_static w.engine.seeds name m w.engine.statics)))
        → (r : Result (Unit {0}) DeclFault) → Places w.engine.seeds name m w.engine.statics r new → Goes w f (commands.StaticModule name id) r (put_in new) f
    by none changes (Ok u) places = done_in w (put_in new) f f (commands.StaticModule name id) _ none changes (clear_keys (made_static w.engine.seeds name m w.engine.statics) places.1) (ap put_in places.0) refl
    by none changes (Err no_memory) places = (ap put_in places, refl)
    by none changes (Err (HashCollision held other)) places =
        subst (λ (x : World). Goes w f (commands.StaticModule name id) (Err (HashCollision held other)) x f) (sym (ap put_in places.1))
        (collided none changes (keyed_there (made_static w.engine.seeds name m w.engine.statics) places.0.0 places.0.1) places.0.2)
    by none changes (Err (IndexerNotAllowed key)) places = absurd places
    by none changes (Err NotCallable) places = absurd places
    by none changes (Err (UnknownNumber number count)) places = absurd places

-- a question about a module that is held
pub asked_goes : (w : World) (f : Frame) (command : Command) (id : ModuleId) (m : ModuleTree) (reply same : Reply) → operands w f command ≡ (id.0, length w.modules) ∷ [] → not_callable command ≡ None → indexer_not_allowed w.engine.natives w.engine.manifests command ≡ None → slice_get w.modules id.0 ≡ Some m
    → change w f command ≡ Some (record { reply = same; world = w; frame = f; tables = [] }) → reply ≡ same → Declares w f command reply w f
asked_goes w f command id m reply same is callable allowed there changes e =
    let none = none_refuses w f command (ap (first_of unknown_of) is ∙ one_held id.0 (length w.modules) (slice_get_within w.modules id.0 m there)) callable allowed in
    subst (λ (x : Reply). Declares w f command x w f) (sym e) (done none changes tt)
