-- Which replies answer a list of commands.
use Rattle.std.specs.Prelude.{◌≡◌, ℕ, ◌≤◌, ◌<◌, List, [], ◌∷◌, ◌++◌, length, take, slice_get, Option, None, Some, Result, Ok, Err}
use Rattle.std.specs.List.{AllByRecursion, Contains}
use Rattle.rhd_value.specs.Tree.{Bytes}
use Rattle.rhd_value.specs.declared.fault.EvalAltResult.{EvalAltResult}
use Rattle.rhd_hash.specs.declared.key.Key.{Key}
use Rattle.rhd_hash.specs.Table.{Clashing}
use Rattle.rhd_table.specs.Indexed.{NoneClash}
use Rattle.rhd_decl.specs.declared.fault.DeclFault.{DeclFault}
use Rattle.rhd_decl.specs.declared.fault.DeclFault.TheVariants.{HashCollision}
use Rattle.rhd_func.specs.declared.request.CallRequest.{CallRequest}
use Rattle.rhd_module.specs.Tree.{ModuleTree}
use Rattle.rhd_call.specs.declared.command.Command.{Command}
use Rattle.rhd_call.specs.declared.command.Command.TheVariants as commands
use Rattle.rhd_call.specs.declared.reply.Reply.{Reply}
use Rattle.rhd_call.specs.declared.reply.Reply.TheVariants.{Done, Fault, Refused}
use Rattle.rhd_engine.specs.Engine.{Frame}
use Rattle.rhd_machine.specs.World.{World, Moment}
use Rattle.rhd_resolve.specs.declared.fault.ResolveFault.TheVariants as refusal
use Rattle.rhd_resolve.specs.Environs.{Envs}
use Rattle.rhd_resolve.specs.File.{FileState, AllowsLoad, FileResolves}
use Rattle.rhd_session.specs.Commands.{call_of, cause, change, Change, Keyed}
use Rattle.rhd_session.specs.State.{SessionState, SessionObjects, envs_of, asked_for, Stays}
use Rattle.rhd_machine.specs.CallReplied.{CallReplied}
use Rattle.rhd_call.specs.declared.reply.Stopped.{Stopped}

-- no two keys of a table clash
abbrev pub NoClash : Keyed → Type 0
NoClash table = NoneClash table.seeds table.keys

-- What a declaring command answers, and the world and the frame that it leaves. A collision tells two keys of one table that the command would leave.
pub data Declares (w : World) (f : Frame) (command : Command) : Reply → World → Frame → Type 0 where
  refused : {fault : DeclFault} →
      cause w f command ≡ Some fault →
      Declares w f command (Refused fault) w f
  collided : {c : Change} {table : Keyed} {held new : Key} →
      cause w f command ≡ None →
      change w f command ≡ Some c →
      Contains c.tables table →
      Clashing table.seeds table.keys held new →
      Declares w f command (Refused (HashCollision held new)) w f
  done : {c : Change} →
      cause w f command ≡ None →
      change w f command ≡ Some c →
      AllByRecursion NoClash c.tables →
      Declares w f command c.reply c.world c.frame

-- What an import by its path answers, and the state that it leaves: the module that the file resolver gives is the last import, and an environment of it may be there; a fault and a collision of the resolver leave all as it was, but that files were read.
pub data ImportsPath (load : AllowsLoad) (s : SessionState) (name path : Bytes) : Reply → SessionState → Type 0 where
  imported : {m : ModuleTree} {e : Envs} {files : FileState} →
      FileResolves load s.files (asked_for s.world s.frame path) (Ok m) e files →
      ImportsPath load s name path Done (record { world = record s.world { environs = e.items }; frame = record s.frame { imports = s.frame.imports ++ (name, m) ∷ [] }; files = files })
  faulted : {fault : EvalAltResult} {files : FileState} →
      FileResolves load s.files (asked_for s.world s.frame path) (Err (refusal.Fault fault)) (envs_of s.world) files →
      ImportsPath load s name path (Fault fault) (record s { files = files })
  clashed : {held new : Key} {files : FileState} →
      FileResolves load s.files (asked_for s.world s.frame path) (Err (refusal.HashCollision held new)) (envs_of s.world) files →
      ImportsPath load s name path (Refused (HashCollision held new)) (record s { files = files })

-- the same of a command that makes no call: it declares something, or asks the objects that are handed in
pub data Applied {H B : Type 0} (o : SessionObjects H B) (s : SessionState) : Command → Reply → SessionState → Type 0 where
  declared : {command : Command} {reply : Reply} {w2 : World} {f2 : Frame} →
      Declares s.world s.frame command reply w2 f2 →
      Applied o s command reply (record { world = w2; frame = f2; files = s.files })
  by_path : {name path : Bytes} {reply : Reply} {s2 : SessionState} →
      ImportsPath o.loads s name path reply s2 →
      Applied o s (commands.ImportPath name path) reply s2

-- the reply answers the command, which makes this call, or none
abbrev pub RepliedTo : {H B : Type 0} → SessionObjects H B → SessionState → Moment H B → Command → Option CallRequest → Reply → SessionState → Moment H B → Type 0
RepliedTo o s before command None reply s2 after = Applied o s command reply s2 × (after ≡ before)
RepliedTo o s before command (Some request) reply s2 after = CallReplied o.objects s.world s.frame before request reply after × (s2 ≡ s)

-- this reply answers the command
abbrev pub Replied : {H B : Type 0} → SessionObjects H B → SessionState → Moment H B → Command → Reply → SessionState → Moment H B → Type 0
Replied o s before command reply s2 after = RepliedTo o s before command (call_of command) reply s2 after

-- so many calls were begun before and after this command is done, or given up: it begins any where it is a call, and none else
abbrev pub BeginsCalls : Option CallRequest → ℕ → ℕ → Type 0
BeginsCalls None before after = after ≡ before
BeginsCalls (Some request) before after = before ≤ after

abbrev pub Begins : Command → ℕ → ℕ → Type 0
Begins command before after = BeginsCalls (call_of command) before after

-- these replies answer these commands, in order
abbrev pub Answered : {H B : Type 0} → SessionObjects H B → SessionState → Moment H B → List Command → List Reply → SessionState → Moment H B → Type 0
Answered o s before [] [] s2 after = (s2 ≡ s) × (after ≡ before)
Answered o s before [] (reply ∷ replies) s2 after = ⊥
Answered o s before (command ∷ commands) [] s2 after = ⊥
Answered {H} {B} o s before (command ∷ commands) (reply ∷ replies) s2 after =
    (s1 : SessionState) × (mid : Moment H B) × Replied o s before command reply s1 mid × Answered o s1 mid commands replies s2 after

-- memory ran out: the first commands are answered, and for the next one calls may have been begun, within the budget, or files read
pub record StoppedAfter {H B : Type 0} (o : SessionObjects H B) (s : SessionState) (before : Moment H B) (commands : List Command) (replies : List Reply) (s2 : SessionState) (after : Moment H B) : Type 0 where
  pub last : SessionState
  pub mid : Moment H B
  pub answered : Answered o s before (take (length replies) commands) replies last mid
  pub stays : Stays last s2
  pub begins : (command : Command) → slice_get commands (length replies) ≡ Some command → Begins command mid.begun after.begun
  pub short : length replies < length commands
  pub within : after.begun ≤ s2.world.engine.limits.budget

-- the objects that are handed in, and the state of a session
pub record SessionSetting (H B : Type 0) : Type 1 where
  pub objects : SessionObjects H B
  pub state : SessionState

-- what a run of commands answers, and the state and the moment that it leaves
abbrev pub RunGives : {H B : Type 0} → SessionSetting H B → Moment H B → List Command → Result (List Reply) Stopped → SessionState → Moment H B → Type 0
RunGives s before commands (Ok replies) s2 after = Answered s.objects s.state before commands replies s2 after × (length replies ≡ length commands)
RunGives s before commands (Err stopped) s2 after = StoppedAfter s.objects s.state before commands stopped.replies s2 after
