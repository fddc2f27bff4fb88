-- Replies whose calls go on where their nodes are taken out.
use Rattle.std.proofs.Common.{◌≡◌, sym, subst, ap, ◌∙◌}
use Rattle.std.specs.Prelude.{Option, Some}
use Rattle.std.specs.Global.{Box}
use Rattle.rhd_func.specs.declared.request.CallRequest.{CallRequest}
use Rattle.rhd_engine.specs.Engine.{Frame}
use Rattle.rhd_machine.specs.World.{World, Objects, Moment}
use Rattle.rhd_call.specs.declared.node.CallNode.{CallNode}
use Rattle.rhd_machine.specs.declared.machine.Asking.{Asking}
use Rattle.rhd_machine.specs.declared.machine.Outcome.{Outcome}
use Rattle.rhd_call.specs.declared.reply.Reply.{Reply}
use Rattle.rhd_call.specs.declared.reply.Reply.TheVariants.{Called}
use Rattle.rhd_call.specs.Seen.{seen}
use Rattle.rhd_machine.specs.Filling.{begun_call, IsBegunFor}
use Rattle.rhd_machine.specs.Waits.{outcome_of, Comes_to}

-- one node is taken
one_node : (node other : CallNode) → ◌≡◌ {A = Option CallNode} (Some node) (Some other) → node ≡ other
one_node node other e = cc

-- the node of a reply that is begun
pub begun_at : (reply : Reply) (node : CallNode) (call : CallRequest) → reply ≡ Called node → IsBegunFor call reply → seen node ≡ begun_call call 1
begun_at reply node call is begun = subst (λ (r : Reply). IsBegunFor call r) is begun

module _ {H B : Type 0} (o : Objects H B) (w : World) where
  -- the call of a reply goes on where its node is taken out
  pub taken_comes : (base : Frame) (taken : Option CallNode) (node own : CallNode) (asking : Option (Box Asking)) (outcome : Outcome) (call : CallRequest) (before after : Moment H B) →
      taken ≡ Some node → taken ≡ Some own → outcome ≡ outcome_of own asking →
      Comes_to o w base 1 call (outcome_of node asking) before after →
      Comes_to o w base 1 call outcome before after
  taken_comes base taken node own asking outcome call before after is out e step =
      let nodes : node ≡ own = one_node node own (sym is ∙ out) in
      subst (λ (x : Outcome). Comes_to o w base 1 call x before after) (ap (λ (x : CallNode). outcome_of x asking) nodes ∙ sym e) step
