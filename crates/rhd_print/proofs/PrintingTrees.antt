-- The lines of trees are those of each in order.
use Rattle.std.proofs.Common.{◌≡◌, ◌≤◌, ℕ, List, ◌++◌, length, take, refl, sym, ap, ◌∙◌}
use Rattle.std.specs.List.{flat_map}
use Rattle.std.proofs.lemmas.List.{take_all}
use Rattle.rhd_call.specs.declared.node.Nodes.{Nodes, Nodes', Row_of-CallNode, end_of-CallNode, more_of-CallNode, items-the_row-CallNode}
use Rattle.rhd_call.specs.Nodes.{nodes_in, nodes_in_row}
use Rattle.rhd_print.specs.PrintedReplies.{tree_text, nodes_text, row_text}

pub row_lines : (n : _) (row : Row_of-CallNode n) → row_text row ≡ flat_map tree_text (items-the_row-CallNode n row)
row_lines n end_of-CallNode = refl
row_lines n (more_of-CallNode node rest) = ap (λ ls. tree_text node ++ ls) (row_lines _ rest)

pub nodes_lines : (nodes : Nodes) → nodes_text nodes ≡ flat_map tree_text (nodes_in nodes)
nodes_lines (Nodes' shape row) = row_lines _ row ∙ ap (flat_map tree_text) (sym (nodes_in_row shape row))

-- once all are printed
pub all_lines : (nodes : Nodes) (i : ℕ) (before now : List ℕ) → now ≡ before ++ flat_map tree_text (take i (nodes_in nodes)) → length (nodes_in nodes) ≤ i → now ≡ before ++ nodes_text nodes
all_lines nodes i before now e h = e ∙ ap (λ ns. before ++ flat_map tree_text ns) (take_all i (nodes_in nodes) h) ∙ ap (λ ls. before ++ ls) (sym (nodes_lines nodes))
