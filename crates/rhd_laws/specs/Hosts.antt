-- Calls that the host is asked for.
use Rattle.std.specs.Prelude.{◌≡◌, ℕ}
use Rattle.rhd_func.specs.declared.request.CallRequest.{CallRequest}
use Rattle.rhd_func.specs.declared.request.HostAnswer.{HostAnswer}
use Rattle.rhd_func.specs.Shapes.{all_args, is_method_shape}
use Rattle.rhd_engine.specs.Engine.{EngineLists, Frame}
use Rattle.rhd_machine.specs.World.{Objects}
use Rattle.rhd_machine.specs.Plans.{plan_of}
use Rattle.rhd_call.specs.End.{End}
use Rattle.rhd_machine.specs.Ends.{host_end}
use Rattle.rhd_laws.specs.FirstAsks.{IsForHost}

-- Between these states the host, asked for the call by its name with all arguments, gave this answer, and the call ends with it.
pub record HostEnds {H B : Type 0} (o : Objects H B) (e : EngineLists) (call : CallRequest) (from : H) (answer : HostAnswer) (to : H) (end : End) : Type 0 where
  pub answers : o.host_answers from (plan_of call).name (all_args (plan_of call).shape) (is_method_shape (plan_of call).shape) answer to
  pub ends : end ≡ host_end e (plan_of call) answer

-- the call is one for the host, and ends so
abbrev pub EndsByHost : {H B : Type 0} → Objects H B → EngineLists → Frame → ℕ → CallRequest → H → H → End → Type 0
EndsByHost o e f level call from to end = IsForHost e f level call × (answer : HostAnswer) × HostEnds o e call from answer to end
