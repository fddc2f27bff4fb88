-- Where the trees of a run stand.
use Rattle.std.specs.Prelude.{◌≡◌, ℕ, take, slice_get, Some}
use Rattle.rhd_call.specs.declared.command.Command.TheVariants.{Call}
use Rattle.rhd_call.specs.declared.node.CallNode.{CallNode}
use Rattle.rhd_session.specs.Answered.{Answered}
use Rattle.rhd_session.specs.State.{SessionState, SessionObjects}
use Rattle.rhd_resolve.specs.File.{FileState}
use Rattle.rhd_laws.specs.Ran.{Ran, RunOf}

-- The tree answers the call at this place of the commands: that ran at level 1, in the world and the frame, and from the moment, that the commands before it leave.
pub record IsTreeAt {H B : Type 0} (o : SessionObjects H B) (run : RunOf o) (n : ℕ) (root : CallNode) : Type 0 where
  pub ran : Ran o.objects
  pub files : FileState
  pub root_is : ran.node ≡ root
  pub level_is : ran.level ≡ 1
  pub asked : slice_get run.commands n ≡ Some (Call ran.call)
  pub reached : Answered o run.state run.before (take n run.commands) (take n run.replies) (record { world = ran.world; frame = ran.frame; files = files }) ran.before
