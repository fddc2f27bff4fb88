-- Where the trees of a run stand.
use Rattle.std.proofs.Common.{◌≡◌, ℕ, Bool, List, [], ◌∷◌, length, refl, sym, ap, subst, ◌∙◌}
use Rattle.std.specs.Prelude.{zero, suc, take, slice_get, Option, None, Some, option_map, option_and_then, Result, Ok, Err}
use Rattle.std.proofs.Math.Seq.{take-length}
use Rattle.rhd_func.specs.declared.request.CallRequest.{CallRequest}
use Rattle.rhd_value.specs.Tree.{Bytes}
use Rattle.rhd_value.specs.declared.fault.EvalAltResult.{EvalAltResult}
use Rattle.rhd_decl.specs.declared.fault.DeclFault.{DeclFault}
use Rattle.rhd_decl.specs.declared.fault.DeclFault.TheVariants.{HashCollision}
use Rattle.rhd_call.specs.declared.command.Command.{Command}
use Rattle.rhd_call.specs.declared.command.Command.TheVariants.{NewModule, SetId, SetDoc, SetVar, SetType, Native, RawNative, Script, SubModule, Combine, CombineFlatten, Fill, Merge, FromManifest, CombineManifest, RegisterLazy, Index, Clear, RegisterFn, RegisterRaw, RegisterType, GlobalModule, StaticModule, PushLib, PopLib, PushImport, ImportPath, PopImport, SetSource, SetTag, Call, Contains}
use Rattle.rhd_call.specs.declared.command.Command.TheVariants.{Count as CountOf}
use Rattle.rhd_call.specs.declared.command.ModuleId.{ModuleId}
use Rattle.rhd_call.specs.declared.node.CallNode.{CallNode}
use Rattle.rhd_call.specs.declared.reply.Reply.{Reply}
use Rattle.rhd_call.specs.declared.reply.Reply.TheVariants.{Done, Made, Fault, Refused, Count, Truth, Called}
use Rattle.rhd_call.specs.declared.reply.Stopped.{Stopped}
use Rattle.rhd_call.specs.Trees.{InTree}
use Rattle.rhd_module.specs.Tree.{ModuleTree}
use Rattle.rhd_engine.specs.Engine.{Frame}
use Rattle.rhd_resolve.specs.File.{AllowsLoad}
use Rattle.rhd_session.specs.State.{SessionState, SessionObjects}
use Rattle.rhd_session.specs.Answered.{Declares, refused, collided, done, ImportsPath, imported, faulted, clashed, Applied, declared, by_path, RepliedTo, Replied, Answered, RunGives}
use Rattle.rhd_session.specs.Commands.{call_of, change, Change, ChangedModule, changed_with}
use Rattle.rhd_machine.specs.Runs.{Runs}
use Rattle.rhd_machine.specs.CallReplied.{CallReplied}
use Rattle.rhd_machine.specs.Trees.{frame_at, RunsAt}
use Rattle.rhd_machine.specs.World.{World, Moment}
use Rattle.rhd_laws.specs.Ran.{RunOf, IsRunOf}
use Rattle.rhd_laws.specs.Reached.{IsTreeAt}
use Rattle.rhd_laws.proofs.TreeLaws.{tree_runs}

-- no declaring command answers a tree
refused_tree : (fault : DeclFault) (root : CallNode) → Refused fault ≡ Called root → ⊥
refused_tree fault root h = absurd cc

made_tree : (id : ModuleId) (root : CallNode) → Made id ≡ Called root → ⊥
made_tree id root h = absurd cc

done_tree : (root : CallNode) → Done ≡ Called root → ⊥
done_tree root h = absurd cc

count_tree : (a b c : ℕ) (root : CallNode) → Count a b c ≡ Called root → ⊥
count_tree a b c root h = absurd cc

truth_tree : (b : Bool) (root : CallNode) → Truth b ≡ Called root → ⊥
truth_tree b root h = absurd cc

same_change : (a b : Change) → Some a ≡ Some b → a ≡ b
same_change a b h = cc

-- a change that answers no tree
one_tree : (a c : Change) (root : CallNode) → (a.reply ≡ Called root → ⊥) → Some a ≡ Some c → c.reply ≡ Called root → ⊥
one_tree a c root never h is = never (ap (λ (x : Change). x.reply) (same_change a c h) ∙ is)

mapped_tree : {A : Type 0} (g : A → Change) (o : Option A) (c : Change) (root : CallNode) → ((a : A) → (g a).reply ≡ Called root → ⊥) → option_map g o ≡ Some c → c.reply ≡ Called root → ⊥
mapped_tree g None c root never h is = absurd cc
mapped_tree g (Some a) c root never h is = one_tree (g a) c root (never a) h is

then_tree : {A : Type 0} (g : A → Option Change) (o : Option A) (c : Change) (root : CallNode) → ((a : A) → g a ≡ Some c → c.reply ≡ Called root → ⊥) → option_and_then g o ≡ Some c → c.reply ≡ Called root → ⊥
then_tree g None c root never h is = absurd cc
then_tree g (Some a) c root never h is = never a h is

with_tree : (w : World) (f : Frame) (m other : ModuleId) (change : ModuleTree → ModuleTree → ChangedModule) (c : Change) (root : CallNode) → changed_with w f m other change ≡ Some c → c.reply ≡ Called root → ⊥
with_tree w f m other change c root h is = then_tree _ (slice_get w.modules other.0) c root (λ o e. mapped_tree _ (slice_get w.modules m.0) c root (λ old. done_tree root) e) h is

change_tree : (w : World) (f : Frame) (command : Command) (c : Change) (root : CallNode) → change w f command ≡ Some c → c.reply ≡ Called root → ⊥
change_tree w f NewModule c root h is = one_tree _ c root (made_tree _ root) h is
change_tree w f (SetId m a) c root h is = mapped_tree _ (slice_get w.modules m.0) c root (λ old. done_tree root) h is
change_tree w f (SetDoc m a) c root h is = mapped_tree _ (slice_get w.modules m.0) c root (λ old. done_tree root) h is
change_tree w f (SetVar m a b) c root h is = mapped_tree _ (slice_get w.modules m.0) c root (λ old. done_tree root) h is
change_tree w f (SetType m a b) c root h is = mapped_tree _ (slice_get w.modules m.0) c root (λ old. done_tree root) h is
change_tree w f (Native m reg n) c root h is = mapped_tree _ (slice_get w.modules m.0) c root (λ old. done_tree root) h is
change_tree w f (RawNative m name namespace types func) c root h is = mapped_tree _ (slice_get w.modules m.0) c root (λ old. done_tree root) h is
change_tree w f (Script m def) c root h is = mapped_tree _ (slice_get w.modules m.0) c root (λ old. done_tree root) h is
change_tree w f (FromManifest id) c root h is = one_tree _ c root (made_tree _ root) h is
change_tree w f (CombineManifest m id) c root h is = mapped_tree _ (slice_get w.modules m.0) c root (λ old. done_tree root) h is
change_tree w f (RegisterLazy m) c root h is = mapped_tree _ (slice_get w.modules m.0) c root (λ old. done_tree root) h is
change_tree w f (Index m) c root h is = mapped_tree _ (slice_get w.modules m.0) c root (λ old. done_tree root) h is
change_tree w f (Clear m) c root h is = mapped_tree _ (slice_get w.modules m.0) c root (λ old. done_tree root) h is
change_tree w f (SubModule m name sub) c root h is = with_tree w f m sub _ c root h is
change_tree w f (Combine m other) c root h is = with_tree w f m other _ c root h is
change_tree w f (CombineFlatten m other) c root h is = with_tree w f m other _ c root h is
change_tree w f (Fill m other) c root h is = with_tree w f m other _ c root h is
change_tree w f (Merge m other) c root h is = with_tree w f m other _ c root h is
change_tree w f (RegisterFn name id) c root h is = one_tree _ c root (done_tree root) h is
change_tree w f (RegisterRaw name types id) c root h is = one_tree _ c root (done_tree root) h is
change_tree w f (RegisterType kind display) c root h is = one_tree _ c root (done_tree root) h is
change_tree w f (GlobalModule m) c root h is = mapped_tree _ (slice_get w.modules m.0) c root (λ added. done_tree root) h is
change_tree w f (StaticModule name m) c root h is = mapped_tree _ (slice_get w.modules m.0) c root (λ added. done_tree root) h is
change_tree w f (PushLib m) c root h is = mapped_tree _ (slice_get w.modules m.0) c root (λ added. done_tree root) h is
change_tree w f PopLib c root h is = one_tree _ c root (done_tree root) h is
change_tree w f (PushImport name m) c root h is = mapped_tree _ (slice_get w.modules m.0) c root (λ added. done_tree root) h is
change_tree w f (ImportPath name path) c root h is = absurd cc
change_tree w f PopImport c root h is = one_tree _ c root (done_tree root) h is
change_tree w f (SetSource source) c root h is = one_tree _ c root (done_tree root) h is
change_tree w f (SetTag tag) c root h is = one_tree _ c root (done_tree root) h is
change_tree w f (CountOf m) c root h is = mapped_tree _ (slice_get w.modules m.0) c root (λ asked. count_tree _ _ _ root) h is
change_tree w f (Contains m key) c root h is = mapped_tree _ (slice_get w.modules m.0) c root (λ asked. truth_tree _ root) h is
change_tree w f (Call request) c root h is = absurd cc

declares_tree : {w w2 : World} {f f2 : Frame} {command : Command} {reply : Reply} (root : CallNode) → Declares w f command reply w2 f2 → reply ≡ Called root → ⊥
declares_tree root (refused {fault = fault} h) is = refused_tree fault root is
declares_tree root (collided {held = held} {new = new} none h there clash) is = refused_tree (HashCollision held new) root is
declares_tree {w} {f = f} {command = command} root (done {c = c} none h clear) is = change_tree w f command c root h is

fault_tree : (fault : EvalAltResult) (root : CallNode) → Fault fault ≡ Called root → ⊥
fault_tree fault root h = absurd cc

path_tree : {load : AllowsLoad} {s s2 : SessionState} {name path : Bytes} {reply : Reply} (root : CallNode) → ImportsPath load s name path reply s2 → reply ≡ Called root → ⊥
path_tree root (imported resolves) is = done_tree root is
path_tree root (faulted {fault = fault} resolves) is = fault_tree fault root is
path_tree root (clashed {held = held} {new = new} resolves) is = refused_tree (HashCollision held new) root is

applied_tree : {H B : Type 0} {o : SessionObjects H B} {s s2 : SessionState} {command : Command} {reply : Reply} (root : CallNode) → Applied o s command reply s2 → reply ≡ Called root → ⊥
applied_tree root (declared d) is = declares_tree root d is
applied_tree root (by_path p) is = path_tree root p is

got : {A : Type 0} (x y : A) → ◌≡◌ {A = Option A} (Some x) (Some y) → x ≡ y
got x y e = cc

-- only a call makes one
asks_call : (command : Command) (request : CallRequest) → call_of command ≡ Some request → command ≡ Call request
asks_call NewModule request e = absurd cc
asks_call PopLib request e = absurd cc
asks_call (SetId m a) request e = absurd cc
asks_call (SetDoc m a) request e = absurd cc
asks_call (SetVar m a b) request e = absurd cc
asks_call (SetType m a b) request e = absurd cc
asks_call (Native m reg n) request e = absurd cc
asks_call (RawNative m name namespace types func) request e = absurd cc
asks_call (Script m def) request e = absurd cc
asks_call (FromManifest id) request e = absurd cc
asks_call (CombineManifest m id) request e = absurd cc
asks_call (RegisterLazy m) request e = absurd cc
asks_call (Index m) request e = absurd cc
asks_call (Clear m) request e = absurd cc
asks_call (SubModule m name sub) request e = absurd cc
asks_call (Combine m other) request e = absurd cc
asks_call (CombineFlatten m other) request e = absurd cc
asks_call (Fill m other) request e = absurd cc
asks_call (Merge m other) request e = absurd cc
asks_call (RegisterFn name id) request e = absurd cc
asks_call (RegisterRaw name types id) request e = absurd cc
asks_call (RegisterType kind display) request e = absurd cc
asks_call (GlobalModule m) request e = absurd cc
asks_call (StaticModule name m) request e = absurd cc
asks_call (PushLib m) request e = absurd cc
asks_call (PushImport name m) request e = absurd cc
asks_call (ImportPath name path) request e = absurd cc
asks_call PopImport request e = absurd cc
asks_call (SetSource source) request e = absurd cc
asks_call (SetTag tag) request e = absurd cc
asks_call (CountOf m) request e = absurd cc
asks_call (Contains m key) request e = absurd cc
asks_call (Call request) same e = ap Call (got request same e)

module _ {H B : Type 0} (o : SessionObjects H B) where
  -- the reply to a command that is a tree
  record IsTreeOf (s : SessionState) (before : Moment H B) (command : Command) (root : CallNode) (after : Moment H B) : Type 0 where
    request : CallRequest
    asked : command ≡ Call request
    replied : CallReplied o.objects s.world s.frame before request (Called root) after

  replied_to : (s s2 : SessionState) (before after : Moment H B) (command : Command) (request : Option CallRequest) (reply : Reply) (root : CallNode) → call_of command ≡ request → RepliedTo o s before command request reply s2 after → reply ≡ Called root → IsTreeOf s before command root after
  replied_to s s2 before after command None reply root asks r is = absurd (applied_tree root r.0 is)
  replied_to s s2 before after command (Some request) reply root asks r is =
      record { request = request; asked = asks_call command request asks; replied = subst (λ (x : Reply). CallReplied o.objects s.world s.frame before request x after) is r.0 }

  replied_tree : (s s2 : SessionState) (before after : Moment H B) (command : Command) (reply : Reply) (root : CallNode) → Replied o s before command reply s2 after → reply ≡ Called root → IsTreeOf s before command root after
  replied_tree s s2 before after command reply root r is = replied_to s s2 before after command (call_of command) reply root refl r is

  -- the tree at a place of the replies
  record StandsAt (s : SessionState) (before : Moment H B) (commands : List Command) (replies : List Reply) (n : ℕ) (root : CallNode) : Type 0 where
    state : SessionState
    from : Moment H B
    to : Moment H B
    request : CallRequest
    cut : Bool
    reached : Answered o s before (take n commands) (take n replies) state from
    asked : slice_get commands n ≡ Some (Call request)
    runs : Runs o.objects state.world state.frame 1 request root from to cut

  -- each tree that is answered is that of a call
  answered_tree : (s s2 : SessionState) (before after : Moment H B) (commands : List Command) (replies : List Reply) (n : ℕ) (root : CallNode)
      → Answered o s before commands replies s2 after → slice_get replies n ≡ Some (Called root) → StandsAt s before commands replies n root
  answered_tree s s2 before after [] [] n root a h = absurd cc
  answered_tree s s2 before after [] (reply ∷ replies) n root a h = absurd a
  answered_tree s s2 before after (command ∷ commands) [] n root a h = absurd a
  answered_tree s s2 before after (command ∷ commands) (reply ∷ replies) zero root a h =
      let r = replied_tree s a.0 before a.1 command reply root a.2 (got reply (Called root) h) in
      record { state = s; from = before; to = a.1; request = r.request; cut = r.replied.0; reached = (refl, refl); asked = ap Some r.asked; runs = r.replied.1 }
  answered_tree s s2 before after (command ∷ commands) (reply ∷ replies) (suc n) root a h =
      let r = answered_tree a.0 s2 a.1 after commands replies n root a.3 h in
      record { state = r.state; from = r.from; to = r.to; request = r.request; cut = r.cut; reached = (a.0, a.1, a.2, r.reached); asked = r.asked; runs = r.runs }

  pub run_tree : (run : RunOf o) (n : ℕ) (root : CallNode) → slice_get run.replies n ≡ Some (Called root) → IsTreeAt o run n root
  run_tree run n root h =
      let r = answered_tree run.state run.last run.before run.after run.commands run.replies n root run.answered h in
      record {
        ran = record { world = r.state.world; frame = r.state.frame; level = 1; call = r.request; node = root; before = r.from; after = r.to; cut = r.cut; runs = r.runs };
        files = r.state.files;
        root_is = refl;
        level_is = refl;
        asked = r.asked;
        reached = r.reached;
      }

  -- each of its nodes runs there
  node_runs : {node own root : CallNode} (inside : InTree node root) (w : World) (f : Frame) (level : ℕ) (call : CallRequest) (before after : Moment H B) (cut : Bool)
      → Runs o.objects w f level call own before after cut → own ≡ root → RunsAt o.objects w (frame_at w f inside) node
  node_runs inside w f level call before after cut r is = tree_runs o.objects w inside (subst (λ (x : CallNode). Runs o.objects w f level call x before after cut) is r)

  pub run_node : (run : RunOf o) (n : ℕ) (root node : CallNode) (inside : InTree node root) → slice_get run.replies n ≡ Some (Called root)
      → (tree : IsTreeAt o run n root) × RunsAt o.objects tree.ran.world (frame_at tree.ran.world tree.ran.frame inside) node
  run_node run n root node inside h =
      let t = run_tree run n root h in
      (t, node_runs inside t.ran.world t.ran.frame t.ran.level t.ran.call t.ran.before t.ran.after t.ran.cut t.ran.runs t.root_is)

  -- each call is answered by a tree
  replied_call : (w : World) (f : Frame) (before after : Moment H B) (request : CallRequest) (reply : Reply) → CallReplied o.objects w f before request reply after → (root : CallNode) × (reply ≡ Called root)
  replied_call w f before after request (Called root) r = (root, refl)
  replied_call w f before after request Done r = absurd r
  replied_call w f before after request (Made id) r = absurd r
  replied_call w f before after request (Fault fault) r = absurd r
  replied_call w f before after request (Refused fault) r = absurd r
  replied_call w f before after request (Count a b c) r = absurd r
  replied_call w f before after request (Truth b) r = absurd r

  call_replied : (s s2 : SessionState) (before after : Moment H B) (command : Command) (reply : Reply) (request : CallRequest) → Replied o s before command reply s2 after
      → command ≡ Call request → (root : CallNode) × (reply ≡ Called root)
  call_replied s s2 before after command reply request r is =
      replied_call s.world s.frame before after request reply (subst (λ (c : Command). Replied o s before c reply s2 after) is r).0

  answered_call : (s s2 : SessionState) (before after : Moment H B) (commands : List Command) (replies : List Reply) (n : ℕ) (request : CallRequest)
      → Answered o s before commands replies s2 after → slice_get commands n ≡ Some (Call request) → (root : CallNode) × (slice_get replies n ≡ Some (Called root))
  answered_call s s2 before after [] [] n request a h = absurd cc
  answered_call s s2 before after [] (reply ∷ replies) n request a h = absurd a
  answered_call s s2 before after (command ∷ commands) [] n request a h = absurd a
  answered_call s s2 before after (command ∷ commands) (reply ∷ replies) zero request a h =
      let r = call_replied s a.0 before a.1 command reply request a.2 (got command (Call request) h) in (r.0, ap Some r.1)
  answered_call s s2 before after (command ∷ commands) (reply ∷ replies) (suc n) request a h = answered_call a.0 s2 a.1 after commands replies n request a.3 h

  answered_many : (s s2 : SessionState) (before after : Moment H B) (commands : List Command) (replies : List Reply) → Answered o s before commands replies s2 after → length replies ≡ length commands
  answered_many s s2 before after [] [] a = refl
  answered_many s s2 before after [] (reply ∷ replies) a = absurd a
  answered_many s s2 before after (command ∷ commands) [] a = absurd a
  answered_many s s2 before after (command ∷ commands) (reply ∷ replies) a = ap suc (answered_many a.0 s2 a.1 after commands replies a.3)

  pub run_call : (run : RunOf o) (n : ℕ) (request : CallRequest) → slice_get run.commands n ≡ Some (Call request) → (root : CallNode) × (slice_get run.replies n ≡ Some (Called root))
  run_call run n request h = answered_call run.state run.last run.before run.after run.commands run.replies n request run.answered h

  pub run_many : (run : RunOf o) → length run.replies ≡ length run.commands
  run_many run = answered_many run.state run.last run.before run.after run.commands run.replies run.answered

  -- what a run gives
  pub run_gives : (state last : SessionState) (before after : Moment H B) (commands : List Command) (result : Result (List Reply) Stopped) → RunGives (record { objects = o; state = state }) before commands result last after
      → (run : RunOf o) × IsRunOf o state before commands result run
  run_gives state last before after commands (Ok replies) h = (
    record { state = state; before = before; commands = commands; replies = replies; last = last; after = after; answered = h.0 },
    record { state_is = refl; before_is = refl; first = sym (ap (λ n. take n commands) h.1 ∙ take-length commands); given = refl },
  )
  run_gives state last before after commands (Err stopped) h = (
    record { state = state; before = before; commands = take (length stopped.replies) commands; replies = stopped.replies; last = h.last; after = h.mid; answered = h.answered },
    record { state_is = refl; before_is = refl; first = refl; given = refl },
  )
