-- Where a call gives a fault of a call that isn't found, and which.
use Rattle.std.specs.Prelude.{◌≡◌, ◌⊎◌, ℕ, ◌++◌, true, None, codes}
use Rattle.rhd_value.specs.Tree.{Bytes}
use Rattle.rhd_value.specs.declared.fault.EvalAltResult.{EvalAltResult}
use Rattle.rhd_value.specs.Fault.{number_of}
use Rattle.rhd_value.specs.Seen.{fault_seen}
use Rattle.rhd_func.specs.declared.request.CallRequest.{CallRequest}
use Rattle.rhd_func.specs.declared.request.HostAnswer.TheVariants.{Nothing}
use Rattle.rhd_engine.specs.Engine.{EngineLists, Frame}
use Rattle.rhd_machine.specs.World.{Objects}
use Rattle.rhd_call.specs.End.{End}
use Rattle.rhd_machine.specs.Plans.{without_host, plan_of}
use Rattle.rhd_machine.specs.Ends.{missing_fault}
use Rattle.rhd_machine.specs.Decisions.{refusal}
use Rattle.rhd_laws.specs.FirstAsks.{IsUnanswered, IsForHost}
use Rattle.rhd_laws.specs.Hosts.{HostEnds}

-- the number of a fault
abbrev pub fault_number : EvalAltResult → ℕ
fault_number fault = number_of (fault_seen fault)

-- The name is that of a getter or a setter, and n is the number of arguments that it takes.
pub data IsProperty (name : Bytes) (n : ℕ) : Type 0 where
  is_getter : (property : Bytes) → name ≡ codes "get$" ++ property → n ≡ 1 → IsProperty name n
  is_setter : (property : Bytes) → name ≡ codes "set$" ++ property → n ≡ 2 → IsProperty name n

-- The name is that of an indexer, and n is the number of arguments that it takes.
pub data IsIndexer (name : Bytes) (n : ℕ) : Type 0 where
  is_index_getter : name ≡ codes "index$get$" → n ≡ 2 → IsIndexer name n
  is_index_setter : name ≡ codes "index$set$" → n ≡ 3 → IsIndexer name n

-- one of both
abbrev pub IsAccess : Bytes → ℕ → Type 0
IsAccess name n = IsProperty name n ⊎ IsIndexer name n

-- Nothing refuses the call, and neither a declaration nor a built-in answers it; and the host isn't asked, as natives alone are meant or the call is qualified, or gave nothing between these states, and the call ends so.
pub data AllFail {H B : Type 0} (o : Objects H B) (e : EngineLists) (f : Frame) (level : ℕ) (call : CallRequest) (from to : H) (end : End) : Type 0 where
  and_no_host : refusal e f level call ≡ None → without_host (plan_of call).search ≡ true → IsUnanswered e f call → AllFail o e f level call from to end
  and_host : IsForHost e f level call → HostEnds o e call from Nothing to end → AllFail o e f level call from to end

-- so it is, and the fault is that of its name and arguments, and of its path where it is qualified
pub record IsUnfound {H B : Type 0} (o : Objects H B) (e : EngineLists) (f : Frame) (level : ℕ) (call : CallRequest) (from to : H) (end : End) (fault : EvalAltResult) : Type 0 where
  pub all_fail : AllFail o e f level call from to end
  pub says : fault ≡ missing_fault e (plan_of call) (plan_of call).search
