use Rattle.std.proofs.Common.{◌≡◌, ◌≤◌, length, arith, rules}
use Rattle.rhd_call.specs.Nodes.{nodes_in}
use Rattle.rhd_print.proofs.PrintingTrees.{all_lines}
use Rattle.rhd_print.proofs.nodes.+trees.Goals as goal

pub push_trees-returns : goal.push_trees-returns
push_trees-returns t c =
    let same : length c.as_slice-node-items.result.now ≡ length (nodes_in c.args.nodes.now) = search rules in
    let h : length (nodes_in c.args.nodes.now) ≤ c.loop-node.node-index = omega (arith, same) in
    all_lines c.args.nodes.now c.loop-node.node-index c.args.out.now.items c.loop-node.out.items c.loop-node.invariant h
