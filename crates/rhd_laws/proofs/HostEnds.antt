-- How a call ends that the host answers.
use Rattle.std.proofs.Common.{◌≡◌, refl, ap, ◌∙◌}
use Rattle.std.specs.Prelude.{Option, None, Some, Ok, Err}
use Rattle.rhd_value.specs.Tree.{Tree}
use Rattle.rhd_value.specs.declared.tag.TypeTag.{TypeTag}
use Rattle.rhd_value.specs.declared.fault.EvalAltResult.{EvalAltResult}
use Rattle.rhd_value.specs.declared.fault.EvalAltResult.TheVariants.{ErrorMismatchOutputType}
use Rattle.rhd_func.specs.declared.request.HostAnswer.{HostAnswer}
use Rattle.rhd_func.specs.declared.request.HostAnswer.TheVariants.{Nothing, Value, Fault}
use Rattle.rhd_call.specs.End.{End, refusing}
use Rattle.rhd_call.specs.declared.node.Whose.TheVariants.{Host}
use Rattle.rhd_engine.specs.Engine.{EngineLists}
use Rattle.rhd_engine.specs.Display.{display}
use Rattle.rhd_machine.specs.Plans.{Plan}
use Rattle.rhd_machine.specs.Ends.{wanted_name, not_wanted, accepted, missing_end, host_end}
use Rattle.rhd_laws.specs.Causes.{IsOfOtherKind}
use Rattle.rhd_laws.proofs.LastSteps.{unwanted_other, other_unwanted}

-- the ends of the host's own
abbrev pub value_end : Plan → Tree → End
value_end plan v = record { answer = Ok v; whose = Host; first_after = plan.given; printed = None; refused = None }

abbrev pub fault_end : Plan → EvalAltResult → End
fault_end plan fault = record { answer = Err fault; whose = Host; first_after = plan.given; printed = None; refused = None }

-- how a call ends with a value of the host, by the test of its kind
abbrev value_from : Plan → Tree → Option EvalAltResult → End
value_from plan v (Some fault) = refusing plan.given v fault
value_from plan v None = value_end plan v

value_is : (plan : Plan) (v : Tree) (o : Option EvalAltResult) → ◌≡◌ {A = End} (elim o as (λ _. End) [ None ↦ value_end plan v | Some fault ↦ refusing plan.given v fault ]) (value_from plan v o)
value_is plan v (Some fault) = refl
value_is plan v None = refl

value_tests : (engine : EngineLists) (plan : Plan) (v : Tree) → accepted engine plan Host plan.given v ≡ value_from plan v (not_wanted engine plan.want plan.pos v)
value_tests engine plan v = value_is plan v (not_wanted engine plan.want plan.pos v)

-- the ways in which a call ends with the host's answer
pub data HostSays (engine : EngineLists) (plan : Plan) (answer : HostAnswer) (end : End) : Type 0 where
  says_nothing : answer ≡ Nothing → end ≡ missing_end engine plan → HostSays engine plan answer end
  says_fault : (fault : EvalAltResult) → answer ≡ Fault fault → end ≡ fault_end plan fault → HostSays engine plan answer end
  says_other : (v : Tree) (kind : TypeTag) → answer ≡ Value v → IsOfOtherKind plan.want kind v → end ≡ refusing plan.given v (ErrorMismatchOutputType (wanted_name engine kind) (display engine v) plan.pos) → HostSays engine plan answer end
  says_value : (v : Tree) → answer ≡ Value v → end ≡ value_end plan v → HostSays engine plan answer end

value_by : (engine : EngineLists) (plan : Plan) (v : Tree) (end : End) (o : Option EvalAltResult) → not_wanted engine plan.want plan.pos v ≡ o → end ≡ value_from plan v o → HostSays engine plan (Value v) end
value_by engine plan v end (Some fault) is h =
    let l = unwanted_other engine plan.want plan.pos v fault is in
    says_other v l.0 refl l.1 (h ∙ ap (refusing plan.given v) l.2)
value_by engine plan v end None is h = says_value v refl h

pub host_says : (engine : EngineLists) (plan : Plan) (answer : HostAnswer) (end : End) → end ≡ host_end engine plan answer → HostSays engine plan answer end
unfolding host_end
host_says engine plan Nothing end h = says_nothing refl h
host_says engine plan (Value v) end h = value_by engine plan v end (not_wanted engine plan.want plan.pos v) refl (h ∙ value_tests engine plan v)
host_says engine plan (Fault fault) end h = says_fault fault refl h

-- a value of the host that isn't of the wanted kind
pub host_other : (engine : EngineLists) (plan : Plan) (v : Tree) (kind : TypeTag) (end : End) → IsOfOtherKind plan.want kind v → end ≡ host_end engine plan (Value v)
    → end ≡ refusing plan.given v (ErrorMismatchOutputType (wanted_name engine kind) (display engine v) plan.pos)
unfolding host_end
host_other engine plan v kind end other h = h ∙ value_tests engine plan v ∙ ap (value_from plan v) (other_unwanted engine plan.want plan.pos v kind other)

-- every end of the host's answer shows the first argument as it was given
pub host_first : {engine : EngineLists} {plan : Plan} {answer : HostAnswer} {end : End} → HostSays engine plan answer end → end.first_after ≡ plan.given
host_first (says_nothing is e) = ap (λ (x : End). x.first_after) e
host_first (says_fault fault is e) = ap (λ (x : End). x.first_after) e
host_first (says_other v kind is other e) = ap (λ (x : End). x.first_after) e
host_first (says_value v is e) = ap (λ (x : End). x.first_after) e

-- and prints nothing
pub host_unprinted : {engine : EngineLists} {plan : Plan} {answer : HostAnswer} {end : End} → HostSays engine plan answer end → end.printed ≡ None
host_unprinted (says_nothing is e) = ap (λ (x : End). x.printed) e
host_unprinted (says_fault fault is e) = ap (λ (x : End). x.printed) e
host_unprinted (says_other v kind is other e) = ap (λ (x : End). x.printed) e
host_unprinted (says_value v is e) = ap (λ (x : End). x.printed) e
