use Rattle.rhd_print.proofs.TreeOrder.{tree_lines, parts_in_order, has_tree, tree_has, reply_lines}
use Rattle.rhd_print.proofs.tree_law.printed_trees_tell_every_call.Goals as goal

pub returns-clause-lines : goal.returns-clause-lines
returns-clause-lines c = tree_lines

pub returns-clause-order : goal.returns-clause-order
returns-clause-order c = parts_in_order

pub returns-clause-calls : goal.returns-clause-calls
returns-clause-calls c = λ node root. (has_tree root node, tree_has)

pub returns-clause-replies : goal.returns-clause-replies
returns-clause-replies c = λ front others root. reply_lines front others root
