use Rattle.std.proofs.Common.{◌≡◌, ◌++◌, take}
use Rattle.std.specs.List.{flat_map}
use Rattle.rhd_call.specs.Nodes.{nodes_in}
use Rattle.rhd_print.specs.PrintedReplies.{tree_text}
use Rattle.rhd_print.proofs.nodes.+trees.Given as goal

abbrev pub invariant-push_trees-loop-node : goal.invariant-push_trees-loop-node
invariant-push_trees-loop-node l = l.out.items ≡ l.fn.out.items ++ flat_map tree_text (take l.node-index (nodes_in l.nodes))
