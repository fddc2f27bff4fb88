-- The calls that a function asks for, read from its first step to its last.
use Rattle.std.specs.Prelude.{◌≡◌, ℕ, Bool, true, false, List, [], ◌∷◌, Some}
use Rattle.rhd_func.specs.declared.request.CallRequest.{CallRequest}
use Rattle.rhd_func.specs.declared.request.Carry.{Carry}
use Rattle.rhd_func.specs.declared.request.NativeStep.{NativeStep}
use Rattle.rhd_func.specs.declared.request.NativeStep.TheVariants.{Ask}
use Rattle.rhd_engine.specs.Engine.{Frame}
use Rattle.rhd_machine.specs.World.{World, Objects, Moment}
use Rattle.rhd_call.specs.declared.pick.Pick.{Pick}
use Rattle.rhd_call.specs.declared.node.CallNode.{CallNode}
use Rattle.rhd_machine.specs.Plans.{Plan, plan_of}
use Rattle.rhd_call.specs.End.{End}
use Rattle.rhd_machine.specs.Ends.{end_of}
use Rattle.rhd_machine.specs.Entered.{context}
use Rattle.rhd_call.specs.Seen.{Seen, seen, cut_end, done_of}
use Rattle.rhd_machine.specs.Steps.{Starts, Resumes}
use Rattle.rhd_machine.specs.Runs.{received_by}
use Rattle.rhd_call.specs.Trees.{CutTree}

-- From this step on the function keeps these carries, its requests are the calls of these children, and the call ends so.
-- The truth value says whether the budget was spent.
pub data Requests {H B : Type 0} (o : Objects H B) (w : World) (f : Frame) (level : ℕ) (call : CallRequest) (plan : Plan) (pick : Pick) : NativeStep → List Carry → List CallNode → End → Bool → Type 0 where
  -- its last step ends the call
  no_more : {step : NativeStep} {end : End} →
      end_of w.engine plan pick step ≡ Some end →
      Requests o w f level call plan pick step [] [] end false
  -- the budget is spent within the call that it asks for
  the_last : {step : NativeStep} {carry : Carry} {child : CallNode} {end : End} →
      step ≡ Ask (seen child).call carry →
      CutTree child →
      end ≡ cut_end call →
      Requests o w f level call plan pick step (carry ∷ []) (child ∷ []) end true
  -- it is given the answer to the call that it asks for, and goes on
  one_then : {step next : NativeStep} {carry : Carry} {child : CallNode} {carries : List Carry} {children : List CallNode} {end : End} {cut : Bool} {before after : Moment H B} →
      step ≡ Ask (seen child).call carry →
      Resumes o w.engine.natives (context f level plan pick) pick.func carry (done_of child) before next after →
      Requests o w f level call plan pick next carries children end cut →
      Requests o w f level call plan pick step (carry ∷ carries) (child ∷ children) end cut

-- The function that a node shows starts on what it receives, and its requests are the node's children, in order.
abbrev pub ShowsRequests : {H B : Type 0} → Objects H B → World → Frame → Seen → Pick → Bool → Type 0
ShowsRequests {H} {B} o w f node pick cut =
    let plan = plan_of node.call in
    (before : Moment H B) × (first : NativeStep) × (after : Moment H B) × Starts o w.engine.natives (context f node.level plan pick) pick.func (received_by w.engine plan pick) before first after
    × Requests o w f node.level node.call plan pick first node.carries node.children node.end cut
