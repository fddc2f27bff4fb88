-- Calls that ran, and runs of commands.
use Rattle.std.specs.Prelude.{◌≡◌, ℕ, Bool, List, length, take, Result, Ok, Err}
use Rattle.rhd_func.specs.declared.request.CallRequest.{CallRequest}
use Rattle.rhd_call.specs.declared.command.Command.{Command}
use Rattle.rhd_call.specs.declared.node.CallNode.{CallNode}
use Rattle.rhd_call.specs.declared.reply.Reply.{Reply}
use Rattle.rhd_call.specs.declared.reply.Stopped.{Stopped}
use Rattle.rhd_engine.specs.Engine.{Frame}
use Rattle.rhd_session.specs.Answered.{Answered}
use Rattle.rhd_session.specs.State.{SessionState, SessionObjects}
use Rattle.rhd_machine.specs.Runs.{Runs}
use Rattle.rhd_machine.specs.World.{World, Objects, Moment}

-- A call in any world and frame, at a level, between two moments, and a node that answers it. The truth value says whether the budget was spent in it.
pub record Ran {H B : Type 0} (o : Objects H B) : Type 0 where
  pub world : World
  pub frame : Frame
  pub level : ℕ
  pub call : CallRequest
  pub node : CallNode
  pub before : Moment H B
  pub after : Moment H B
  pub cut : Bool
  pub runs : Runs o world frame level call node before after cut

-- Commands from any state and moment on, and replies that answer them.
pub record RunOf {H B : Type 0} (o : SessionObjects H B) : Type 0 where
  pub state : SessionState
  pub before : Moment H B
  pub commands : List Command
  pub replies : List Reply
  pub last : SessionState
  pub after : Moment H B
  pub answered : Answered o state before commands replies last after

-- the replies that were given, also where memory ran out
abbrev pub replies_in : Result (List Reply) Stopped → List Reply
replies_in (Ok replies) = replies
replies_in (Err stopped) = stopped.replies

-- The run answers the first of these commands by the replies that were given, from this state and moment on.
pub record IsRunOf {H B : Type 0} (o : SessionObjects H B) (state : SessionState) (before : Moment H B) (commands : List Command) (result : Result (List Reply) Stopped) (run : RunOf o) : Type 0 where
  pub state_is : run.state ≡ state
  pub before_is : run.before ≡ before
  pub first : run.commands ≡ take (length (replies_in result)) commands
  pub given : run.replies ≡ replies_in result
