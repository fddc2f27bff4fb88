-- The end of a call that the host answers.
use Rattle.std.proofs.Common.{◌≡◌, refl, sym, ap, ◌∙◌}
use Rattle.std.specs.Prelude.{Option, Err}
use Rattle.rhd_value.specs.Tree.{Tree}
use Rattle.rhd_value.specs.declared.fault.EvalAltResult.{EvalAltResult}
use Rattle.rhd_func.specs.declared.request.HostAnswer.{HostAnswer}
use Rattle.rhd_func.specs.declared.request.HostAnswer.TheVariants.{Nothing, Value, Fault}
use Rattle.rhd_func.specs.declared.request.CallRequest.{CallRequest}
use Rattle.rhd_func.specs.declared.request.CallRequest.TheVariants.{Named, Qualified}
use Rattle.rhd_func.specs.Shapes.{given}
use Rattle.rhd_call.specs.declared.node.CallNode.{CallNode}
use Rattle.rhd_call.specs.declared.node.Whose.TheVariants.{Host}
use Rattle.rhd_machine.specs.Plans.{plan_of}
use Rattle.rhd_call.specs.End.{answered, failed}
use Rattle.rhd_engine.specs.Engine.{EngineLists}
use Rattle.rhd_machine.specs.Ends.{accepted, missing_end, host_end}
use Rattle.rhd_call.specs.Seen.{seen}
use Rattle.rhd_machine.specs.Filling.{with_end}

pub plan_given : (call : CallRequest) → given call ≡ (plan_of call).given
plan_given (Named name token native_only shape want pos) = refl
plan_given (Qualified path name shape pos) = refl

-- the end of a call with each answer of the host
pub nothing_ends : (e : EngineLists) (old new : CallNode) (answer : HostAnswer) (fault : EvalAltResult) →
    answer ≡ Nothing → failed (plan_of (seen old).call).given fault ≡ missing_end e (plan_of (seen old).call) →
    seen new ≡ with_end (seen old) (failed (given (seen old).call) fault) → seen new ≡ with_end (seen old) (host_end e (plan_of (seen old).call) answer)
unfolding host_end
nothing_ends e old new answer fault is m h =
    h ∙ ap (λ (x : Option Tree). with_end (seen old) (failed x fault)) (plan_given (seen old).call) ∙ ap (with_end (seen old)) m ∙ ap (λ (x : HostAnswer). with_end (seen old) (host_end e (plan_of (seen old).call) x)) (sym is)

pub value_ends : (e : EngineLists) (old new : CallNode) (answer : HostAnswer) (v : Tree) (first : Option Tree) →
    answer ≡ Value v → first ≡ given (seen old).call → seen new ≡ with_end (seen old) (accepted e (plan_of (seen old).call) Host first v) → seen new ≡ with_end (seen old) (host_end e (plan_of (seen old).call) answer)
unfolding host_end
value_ends e old new answer v first is f h =
    h ∙ ap (λ (x : Option Tree). with_end (seen old) (accepted e (plan_of (seen old).call) Host x v)) (f ∙ plan_given (seen old).call) ∙ ap (λ (x : HostAnswer). with_end (seen old) (host_end e (plan_of (seen old).call) x)) (sym is)

pub fault_ends : (e : EngineLists) (old new : CallNode) (answer : HostAnswer) (fault : EvalAltResult) (first : Option Tree) →
    answer ≡ Fault fault → first ≡ given (seen old).call → seen new ≡ with_end (seen old) (answered Host first (Err fault)) → seen new ≡ with_end (seen old) (host_end e (plan_of (seen old).call) answer)
unfolding host_end
fault_ends e old new answer fault first is f h =
    h ∙ ap (λ (x : Option Tree). with_end (seen old) (answered Host x (Err fault))) (f ∙ plan_given (seen old).call) ∙ ap (λ (x : HostAnswer). with_end (seen old) (host_end e (plan_of (seen old).call) x)) (sym is)
