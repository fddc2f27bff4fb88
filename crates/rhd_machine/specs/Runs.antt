-- Which trees of calls there may be.
use Rattle.std.specs.Prelude.{◌≡◌, ℕ, ◌+◌, ◌<◌, Bool, true, false, List, [], ◌∷◌, ◌++◌, Option, Some, None}
use Rattle.rhd_func.specs.declared.request.CallRequest.{CallRequest}
use Rattle.rhd_func.specs.declared.request.Carry.{Carry}
use Rattle.rhd_func.specs.declared.request.HostAnswer.{HostAnswer}
use Rattle.rhd_func.specs.declared.request.NativeStep.{NativeStep}
use Rattle.rhd_func.specs.Shapes.{all_args, is_method_shape}
use Rattle.rhd_func.specs.declared.request.NativeStep.TheVariants.{Ask}
use Rattle.rhd_engine.specs.Engine.{EngineLists, Frame}
use Rattle.rhd_machine.specs.World.{World, Objects, Moment, one_begun}
use Rattle.rhd_call.specs.declared.node.CallNode.{CallNode}
use Rattle.rhd_call.specs.declared.pick.Pick.{Pick}
use Rattle.rhd_machine.specs.Plans.{Plan}
use Rattle.rhd_machine.specs.Received.{Received, received, convention_of}
use Rattle.rhd_call.specs.End.{End}
use Rattle.rhd_machine.specs.Ends.{end_of, host_end}
use Rattle.rhd_machine.specs.Decisions.{ends, asks_host, runs, decision}
use Rattle.rhd_machine.specs.Entered.{context, entered}
use Rattle.rhd_call.specs.Seen.{seen, begun_node, unbegun_node, cut_end, done_of}
use Rattle.rhd_machine.specs.Steps.{Starts, Resumes}

-- what is received by the function of a plan
abbrev pub received_by : EngineLists → Plan → Pick → Received
received_by e plan pick = received (convention_of e.natives pick.func) plan.shape

-- Below, a call is asked for in a frame and at a level. The moments are those before and after it, and the
-- truth value at the end says whether the budget was spent in it.
mutual
  -- this node answers the call
  pub data Runs {H B : Type 0} (o : Objects H B) (w : World) : Frame → ℕ → CallRequest → CallNode → Moment H B → Moment H B → Bool → Type 0 where
    -- the budget is spent
    not_begun : {f : Frame} {level : ℕ} {call : CallRequest} {node : CallNode} {before : Moment H B} →
        before.begun ≡ w.engine.limits.budget →
        seen node ≡ unbegun_node call level →
        Runs o w f level call node before before true
    -- it is refused, or natives alone are meant and none is found, or its function isn't for a constant
    ended : {f : Frame} {level : ℕ} {call : CallRequest} {node : CallNode} {before : Moment H B} {pick : Option Pick} {end : End} →
        before.begun < w.engine.limits.budget →
        decision w.engine f level call ≡ ends pick end →
        seen node ≡ begun_node call level pick [] [] end →
        Runs o w f level call node before (one_begun before) false
    -- no function is found, and the host is asked
    host_answered : {f : Frame} {level : ℕ} {call : CallRequest} {node : CallNode} {before : Moment H B} {plan : Plan} {answer : HostAnswer} {host : H} →
        before.begun < w.engine.limits.budget →
        decision w.engine f level call ≡ asks_host plan →
        o.host_answers before.host plan.name (all_args plan.shape) (is_method_shape plan.shape) answer host →
        seen node ≡ begun_node call level None [] [] (host_end w.engine plan answer) →
        Runs o w f level call node before (record (one_begun before) { host = host }) false
    -- the picked function runs to its last step, and each of its requests is answered by a child
    finished : {f : Frame} {level : ℕ} {call : CallRequest} {node : CallNode} {before started after : Moment H B} {plan : Plan} {pick : Pick} {first last : NativeStep} {carries : List Carry} {children : List CallNode} {end : End} →
        before.begun < w.engine.limits.budget →
        decision w.engine f level call ≡ runs plan pick →
        Starts o w.engine.natives (context f level plan pick) pick.func (received_by w.engine plan pick) (one_begun before) first started →
        Steps o w f level plan pick first carries children last started after →
        end_of w.engine plan pick last ≡ Some end →
        seen node ≡ begun_node call level (Some pick) carries children end →
        Runs o w f level call node before after false
    -- the budget is spent within the child of its latest request
    cut_short : {f : Frame} {level : ℕ} {call waited : CallRequest} {node child : CallNode} {before started mid after : Moment H B}
        {plan : Plan} {pick : Pick} {first : NativeStep} {carries : List Carry} {carry : Carry} {children : List CallNode} →
        before.begun < w.engine.limits.budget →
        decision w.engine f level call ≡ runs plan pick →
        Starts o w.engine.natives (context f level plan pick) pick.func (received_by w.engine plan pick) (one_begun before) first started →
        Steps o w f level plan pick first carries children (Ask waited carry) started mid →
        Runs o w (entered w.environs f level pick) (level + 1) waited child mid after true →
        seen node ≡ begun_node call level (Some pick) (carries ++ carry ∷ []) (children ++ child ∷ []) (cut_end call) →
        Runs o w f level call node before after true

  -- from its first step the function comes to its latest step, with these carries and children
  pub data Steps {H B : Type 0} (o : Objects H B) (w : World) : Frame → ℕ → Plan → Pick → NativeStep → List Carry → List CallNode → NativeStep → Moment H B → Moment H B → Type 0 where
    none_yet : {f : Frame} {level : ℕ} {plan : Plan} {pick : Pick} {step : NativeStep} {before : Moment H B} →
        Steps o w f level plan pick step [] [] step before before
    one_more : {f : Frame} {level : ℕ} {plan : Plan} {pick : Pick} {first next : NativeStep} {waited : CallRequest} {carry : Carry} {child : CallNode}
        {carries more_carries : List Carry} {children more_children : List CallNode} {before mid answered after : Moment H B} →
        Steps o w f level plan pick first carries children (Ask waited carry) before mid →
        Runs o w (entered w.environs f level pick) (level + 1) waited child mid answered false →
        Resumes o w.engine.natives (context f level plan pick) pick.func carry (done_of child) answered next after →
        more_carries ≡ carries ++ carry ∷ [] →
        more_children ≡ children ++ child ∷ [] →
        Steps o w f level plan pick first more_carries more_children next before after
