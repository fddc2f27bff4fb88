-- A tree is printed as the lines of its calls in order.
use Rattle.std.proofs.Common.{◌≡◌, ℕ, List, [], ◌∷◌, ◌++◌, refl, sym, ap, subst, ◌∙◌, ◌⊎◌, inl, inr, arith, rules, append_assoc}
use Rattle.std.specs.Prelude.{zero, suc, Option, Result}
use Rattle.std.specs.List.{flat_map, Contains}
use Rattle.std.proofs.lemmas.Grind.{flat_map-append}
use Rattle.std.proofs.lemmas.List.Elements.{Contains-append_left, Contains-append_right, Contains-append_cases}
use Rattle.rhd_value.specs.Tree.{Bytes, Tree}
use Rattle.rhd_value.specs.declared.fault.EvalAltResult.{EvalAltResult}
use Rattle.rhd_func.specs.declared.request.CallRequest.{CallRequest}
use Rattle.rhd_call.specs.declared.node.CallNode.{CallNode, CallNode', out-CallNode}
use Rattle.rhd_call.specs.declared.node.Extras.{Extras}
use Rattle.rhd_call.specs.declared.node.CallNode.TheViews.{the_lemmas}
use Rattle.rhd_call.specs.declared.node.Nodes.{Nodes, Nodes', Row_of-CallNode, end_of-CallNode, more_of-CallNode, items-the_row-CallNode}
use Rattle.rhd_call.specs.declared.node.Whose.{Whose}
use Rattle.rhd_call.specs.declared.pick.Pick.{Pick}
use Rattle.rhd_call.specs.declared.reply.Reply.{Reply}
use Rattle.rhd_call.specs.declared.reply.Reply.TheVariants.{Called}
use Rattle.rhd_call.specs.Nodes.{nodes_in, nodes_in_row}
use Rattle.rhd_call.specs.Seen.{seen}
use Rattle.rhd_call.specs.Trees.{InTree, is_root, is_below}
use Rattle.rhd_print.specs.PrintedReplies.{indent, call_line, tree_text, nodes_text, row_text, printed, all_printed}
use Rattle.rhd_print.specs.TreeLines.{calls_of, calls_in, calls_in_row, own_line}

-- A call goes before those that it led to, and these go in order.

row_parts : (n : _) (row : Row_of-CallNode n) → calls_in_row row ≡ flat_map calls_of (items-the_row-CallNode n row)
row_parts n end_of-CallNode = refl
row_parts n (more_of-CallNode node rest) = ap (λ cs. calls_of node ++ cs) (row_parts _ rest)

nodes_parts : (nodes : Nodes) → calls_in nodes ≡ flat_map calls_of (nodes_in nodes)
nodes_parts (Nodes' shape row) = row_parts _ row ∙ ap (flat_map calls_of) (sym (nodes_in_row shape row))

pub parts_in_order : (node : CallNode) → calls_of node ≡ node ∷ flat_map calls_of (seen node).children
parts_in_order (CallNode' call level begun whose pick carries children answer extras) =
    let ns : (out-CallNode (CallNode' call level begun whose pick carries children answer extras)).children ≡ children = search (rules, the_lemmas) in
    ap (λ cs. CallNode' call level begun whose pick carries children answer extras ∷ cs) (nodes_parts children ∙ ap (λ (x : Nodes). flat_map calls_of (nodes_in x)) (sym ns))

-- The lines.

same_line : (level own : ℕ) (call call' : CallRequest) (pick pick' : Option Pick) (whose whose' : Whose) (answer answer' : Result Tree EvalAltResult) (after after' : Option Tree) (shown shown' : Option Bytes)
    → level ≡ own → call ≡ call' → pick ≡ pick' → whose ≡ whose' → answer ≡ answer' → after ≡ after' → shown ≡ shown'
    → (indent level ++ call_line call pick whose answer after shown ++ 10 ∷ []) ≡ (indent own ++ call_line call' pick' whose' answer' after' shown' ++ 10 ∷ [])
same_line level own call call' pick pick' whose whose' answer answer' after after' shown shown' a b c d e f g = (λ i. indent (a i) ++ call_line (b i) (c i) (d i) (e i) (f i) (g i) ++ 10 ∷ [])

mutual
  pub tree_lines : (node : CallNode) → tree_text node ≡ flat_map own_line (calls_of node)
  tree_lines (CallNode' call level begun whose pick carries children answer extras) =
      let node : CallNode = CallNode' call level begun whose pick carries children answer extras in
      let a : level ≡ (out-CallNode (CallNode' call level begun whose pick carries children answer extras)).level = search (rules, the_lemmas) in
      let b : call ≡ (out-CallNode (CallNode' call level begun whose pick carries children answer extras)).call = search (rules, the_lemmas) in
      let c : pick ≡ (out-CallNode (CallNode' call level begun whose pick carries children answer extras)).pick = search (rules, the_lemmas) in
      let d : whose ≡ (out-CallNode (CallNode' call level begun whose pick carries children answer extras)).whose = search (rules, the_lemmas) in
      let e : answer ≡ (out-CallNode (CallNode' call level begun whose pick carries children answer extras)).answer = search (rules, the_lemmas) in
      let x : extras ≡ (out-CallNode (CallNode' call level begun whose pick carries children answer extras)).extras = search (rules, the_lemmas) in
      ap (λ rest. indent level ++ call_line call pick whose answer extras.first_after extras.printed ++ 10 ∷ [] ++ rest) (nodes_lines_of children)
      ∙ ap (λ line. line ++ flat_map own_line (calls_in children)) (same_line level (seen node).level call (seen node).call pick (seen node).pick whose (seen node).end.whose answer (seen node).end.answer extras.first_after (seen node).end.first_after extras.printed (seen node).end.printed a b c d e
      (ap (λ (y : Extras). y.first_after) x) (ap (λ (y : Extras). y.printed) x))

  nodes_lines_of : (nodes : Nodes) → nodes_text nodes ≡ flat_map own_line (calls_in nodes)
  nodes_lines_of (Nodes' shape row) = row_lines_of row

  row_lines_of : {m : _} (row : Row_of-CallNode m) → row_text row ≡ flat_map own_line (calls_in_row row)
  row_lines_of end_of-CallNode = refl
  row_lines_of (more_of-CallNode node rest) = (λ i. tree_lines node i ++ row_lines_of rest i) ∙ sym (flat_map-append own_line (calls_of node) (calls_in_row rest))

pub reply_lines : (front others : List Reply) (node : CallNode) → all_printed (front ++ Called node ∷ others) ≡ all_printed front ++ flat_map own_line (calls_of node) ++ all_printed others
unfolding printed
reply_lines front others node = flat_map-append printed front (Called node ∷ others) ∙ sym (append_assoc (all_printed front) (tree_text node) (all_printed others)) ∙ ap (λ ls. all_printed front ++ ls ++ all_printed others) (tree_lines node)

-- Which calls they are.

here_is : {A : Type 0} (x : A) (xs : List A) → Contains (x ∷ xs) x
here_is x xs = (0, omega arith, refl)

there_is : {A : Type 0} (x y : A) (xs : List A) → Contains xs y → Contains (x ∷ xs) y
there_is x y xs (k, small, e) = (suc k, omega (arith, small), e)

is_where : {A : Type 0} (x y : A) (xs : List A) → Contains (x ∷ xs) y → (x ≡ y) ⊎ Contains xs y
is_where x y xs (zero, small, e) = inl e
is_where x y xs (suc k, small, e) = inr (k, omega (arith, small), e)

is_nowhere : {A : Type 0} (y : A) → Contains [] y → ⊥
is_nowhere y (k, small, e) = omega (arith, small)

flat_has : {A B : Type 0} (f : A → List B) (x : A) (y : B) (xs : List A) → Contains xs x → Contains (f x) y → Contains (flat_map f xs) y
flat_has f x y [] c d = absurd (is_nowhere x c)
flat_has f x y (a ∷ xs) c d =
    let by : (a ≡ x) ⊎ Contains xs x → Contains (f a ++ flat_map f xs) y = elim [ inl e ↦ Contains-append_left (f a) (flat_map f xs) y (subst (λ z. Contains (f z) y) (sym e) d) | inr more ↦ Contains-append_right (f a) (flat_map f xs) y (flat_has f x y xs more d) ]
    in by (is_where a x xs c)

pub tree_has : {node root : CallNode} → InTree node root → Contains (calls_of root) node
tree_has {node = node} is_root = subst (λ xs. Contains xs node) (sym (parts_in_order node)) (here_is node (flat_map calls_of (seen node).children))
tree_has {node = node} (is_below {root = root} {child = child} among inner) =
    subst (λ xs. Contains xs node) (sym (parts_in_order root)) (there_is root node (flat_map calls_of (seen root).children) (flat_has calls_of child node (seen root).children among (tree_has inner)))

data Below (node : CallNode) (children : List CallNode) : Type 0 where
  below_one : (child : CallNode) → Contains children child → InTree node child → Below node children

later_below : (node child : CallNode) (children : List CallNode) → Below node children → Below node (child ∷ children)
later_below node child children (below_one other c inner) = below_one other (there_is child other children c) inner

is_in_tree : (node root : CallNode) → Below node (seen root).children → InTree node root
is_in_tree node root (below_one child c inner) = is_below c inner

mutual
  pub has_tree : (root node : CallNode) → Contains (calls_of root) node → InTree node root
  has_tree (CallNode' call level begun whose pick carries children answer extras) node c =
      let root : CallNode = CallNode' call level begun whose pick carries children answer extras in
      let ns : children ≡ (out-CallNode (CallNode' call level begun whose pick carries children answer extras)).children = search (rules, the_lemmas) in
      let by : (root ≡ node) ⊎ Contains (calls_in children) node → InTree node root = elim [
        | inl e ↦ subst (λ r. InTree node r) (sym e) is_root
        | inr d ↦ is_in_tree node root (subst (λ (x : Nodes). Below node (nodes_in x)) ns (has_below children node d))
      ]
      in by (is_where root node (calls_in children) c)

  has_below : (nodes : Nodes) (node : CallNode) → Contains (calls_in nodes) node → Below node (nodes_in nodes)
  has_below (Nodes' shape row) node c = subst (Below node) (sym (nodes_in_row shape row)) (row_below row node c)

  row_below : {m : _} (row : Row_of-CallNode m) (node : CallNode) → Contains (calls_in_row row) node → Below node (items-the_row-CallNode m row)
  row_below end_of-CallNode node c = absurd (is_nowhere node c)
  row_below (more_of-CallNode child rest) node c =
      let by : Contains (calls_of child) node ⊎ Contains (calls_in_row rest) node → Below node (child ∷ items-the_row-CallNode _ rest) = elim [
        | inl a ↦ below_one child (here_is child (items-the_row-CallNode _ rest)) (has_tree child node a)
        | inr b ↦ later_below node child (items-the_row-CallNode _ rest) (row_below rest node b)
      ]
      in by (Contains-append_cases (calls_of child) (calls_in_row rest) node c)
