-- Trees of calls: which calls stand in a tree, and how many of them were begun.
use Rattle.std.specs.Prelude.{◌≡◌, ℕ, ◌+◌, true, if◌then◌else◌, List, [], ◌∷◌, ◌++◌}
use Rattle.std.specs.List.{All, Contains}
use Rattle.rhd_call.specs.declared.node.CallNode.{CallNode, CallNode'}
use Rattle.rhd_call.specs.declared.node.Nodes.{Nodes, Nodes', Row_of-CallNode, end_of-CallNode, more_of-CallNode}
use Rattle.rhd_call.specs.Seen.{seen, unbegun_node, cut_end}

-- A call stands in a tree where it is the root, or stands in the tree of one of the root's children.
pub data InTree (node : CallNode) : CallNode → Type 0 where
  is_root : InTree node node
  is_below : {root child : CallNode} → Contains (seen root).children child → InTree node child → InTree node root

-- every call of a tree was begun
abbrev pub AllBegun : CallNode → Type 0
AllBegun root = (node : CallNode) → InTree node root → (seen node).begun ≡ true

-- The budget was spent in a tree: its last call isn't begun, and each call above that one ends with it.
pub data CutTree : CallNode → Type 0 where
  cut_here : {node : CallNode} →
      seen node ≡ unbegun_node (seen node).call (seen node).level →
      CutTree node
  cut_below : {node last : CallNode} (earlier : List CallNode) →
      (seen node).begun ≡ true →
      (seen node).end ≡ cut_end (seen node).call →
      (seen node).children ≡ earlier ++ last ∷ [] →
      All AllBegun earlier →
      CutTree last →
      CutTree node

abbrev mutual
  -- how many calls of a tree were begun
  pub begun_in : CallNode → ℕ
  begun_in (CallNode' call level begun whose pick carries children answer extras) = (if begun then 1 else 0) + begun_in_nodes children

  pub begun_in_nodes : Nodes → ℕ
  begun_in_nodes (Nodes' shape row) = begun_in_row row

  pub begun_in_row : {m : _} → Row_of-CallNode m → ℕ
  begun_in_row end_of-CallNode = 0
  begun_in_row (more_of-CallNode node rest) = begun_in node + begun_in_row rest
