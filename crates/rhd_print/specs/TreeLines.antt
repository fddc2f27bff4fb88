-- The calls of a tree in order, and the line of each.
use Rattle.std.specs.Prelude.{ℕ, List, [], ◌∷◌, ◌++◌}
use Rattle.rhd_call.specs.declared.node.CallNode.{CallNode, CallNode'}
use Rattle.rhd_call.specs.declared.node.Nodes.{Nodes, Nodes', Row_of-CallNode, end_of-CallNode, more_of-CallNode}
use Rattle.rhd_call.specs.Seen.{seen}
use Rattle.rhd_print.specs.PrintedReplies.{indent, call_line}

abbrev mutual
  -- a call, and then those that it led to
  pub calls_of : CallNode → List CallNode
  calls_of (CallNode' call level begun whose pick carries children answer extras) =
      CallNode' call level begun whose pick carries children answer extras ∷ calls_in children

  pub calls_in : Nodes → List CallNode
  calls_in (Nodes' shape row) = calls_in_row row

  pub calls_in_row : {m : _} → Row_of-CallNode m → List CallNode
  calls_in_row end_of-CallNode = []
  calls_in_row (more_of-CallNode node rest) = calls_of node ++ calls_in_row rest

-- a call by itself: the indentation of its level, what it shows, and the end of the line
abbrev pub own_line : CallNode → List ℕ
own_line node =
    let end = (seen node).end in
    indent (seen node).level ++ call_line (seen node).call (seen node).pick end.whose end.answer end.first_after end.printed ++ 10 ∷ []
