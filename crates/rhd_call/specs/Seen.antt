-- What a node shows.
use Rattle.std.specs.Prelude.{ℕ, Bool, true, false, List, [], Option, None}
use Rattle.rhd_value.specs.declared.fault.EvalAltResult.TheVariants.{ErrorTooManyOperations}
use Rattle.rhd_func.specs.declared.request.CallRequest.{CallRequest}
use Rattle.rhd_func.specs.declared.request.Carry.{Carry}
use Rattle.rhd_func.specs.declared.request.CallDone.{CallDone}
use Rattle.rhd_func.specs.Shapes.{given, pos_of}
use Rattle.rhd_call.specs.declared.pick.Pick.{Pick}
use Rattle.rhd_call.specs.declared.node.CallNode.{CallNode, out-CallNode}
use Rattle.rhd_call.specs.Nodes.{nodes_in}
use Rattle.rhd_call.specs.End.{End, failed}

-- the parts of a node
pub record Seen : Type 0 where
  pub call : CallRequest
  pub level : ℕ
  pub begun : Bool
  pub pick : Option Pick
  pub carries : List Carry
  pub children : List CallNode
  pub end : End

abbrev pub seen : CallNode → Seen
seen node =
    let n = out-CallNode node in
    record {
      call = n.call;
      level = n.level;
      begun = n.begun;
      pick = n.pick;
      carries = n.carries;
      children = nodes_in n.children;
      end = record { answer = n.answer; whose = n.whose; first_after = n.extras.first_after; printed = n.extras.printed; refused = n.extras.refused };
    }

-- a node that was begun
abbrev pub begun_node : CallRequest → ℕ → Option Pick → List Carry → List CallNode → End → Seen
begun_node call level pick carries children end = record { call = call; level = level; begun = true; pick = pick; carries = carries; children = children; end = end }

-- a call that isn't begun, as the budget is spent
abbrev pub unbegun_node : CallRequest → ℕ → Seen
unbegun_node call level = record { call = call; level = level; begun = false; pick = None; carries = []; children = []; end = failed (given call) (ErrorTooManyOperations (pos_of call)) }

-- how a call ends within which the budget was spent
abbrev pub cut_end : CallRequest → End
cut_end call = failed None (ErrorTooManyOperations (pos_of call))

-- what a child hands to the function that asked for it
abbrev pub done_of : CallNode → CallDone
done_of node = record { answer = (seen node).end.answer; first = (seen node).end.first_after }
