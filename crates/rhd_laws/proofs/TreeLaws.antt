-- Laws of trees of calls, in every world.
use Rattle.std.proofs.Common.{◌≡◌, ℕ, ◌+◌, ◌≤◌, Bool, true, false, List, [], ◌∷◌, ◌++◌, length, refl, sym, ap, subst, ◌∙◌, ◌⊎◌, inl, inr, arith, rules, append_assoc}
use Rattle.std.specs.Prelude.{Option, Some, None, if◌then◌else◌}
use Rattle.std.specs.List.{All, Contains, sum_by}
use Rattle.std.proofs.lemmas.List.{append-nil, length_push}
use Rattle.std.proofs.lemmas.List.Elements.{All-nil, All-push, All-same, All-contains}
use Rattle.std.proofs.lemmas.List.Sums.{sum_by-cons, sum_by_push}
use Rattle.rhd_func.specs.declared.request.CallRequest.{CallRequest}
use Rattle.rhd_func.specs.declared.request.Carry.{Carry}
use Rattle.rhd_func.specs.declared.request.NativeStep.{NativeStep}
use Rattle.rhd_func.specs.declared.request.NativeStep.TheVariants.{Ask}
use Rattle.rhd_call.specs.declared.node.CallNode.{CallNode, CallNode', out-CallNode}
use Rattle.rhd_call.specs.declared.node.CallNode.TheViews.{the_lemmas}
use Rattle.rhd_call.specs.declared.node.Nodes.{Nodes, Nodes', Row_of-CallNode, end_of-CallNode, more_of-CallNode, items-the_row-CallNode}
use Rattle.rhd_call.specs.declared.pick.Pick.{Pick}
use Rattle.rhd_call.specs.Nodes.{nodes_in, nodes_in_row}
use Rattle.rhd_engine.specs.Engine.{Frame}
use Rattle.rhd_machine.specs.World.{World, Objects, Moment}
use Rattle.rhd_machine.specs.Plans.{Plan, plan_of}
use Rattle.rhd_call.specs.End.{End}
use Rattle.rhd_machine.specs.Entered.{context, entered}
use Rattle.rhd_call.specs.Seen.{Seen, seen, begun_node, unbegun_node, cut_end}
use Rattle.rhd_machine.specs.Steps.{Starts}
use Rattle.rhd_machine.specs.Runs.{Runs, not_begun, ended, host_answered, finished, cut_short, Steps, none_yet, one_more, received_by}
use Rattle.rhd_call.specs.Trees.{InTree, is_root, is_below, AllBegun, CutTree, cut_here, cut_below, begun_in, begun_in_nodes, begun_in_row}
use Rattle.rhd_machine.specs.Trees.{frame_inside, frame_at, RunsAt}
use Rattle.rhd_laws.specs.Requests.{Requests, no_more, the_last, one_then, ShowsRequests}
use Rattle.rhd_machine.proofs.Found.{runs_within, runs_plan}
use Rattle.rhd_machine.proofs.Stepped.{starts_begun, resumes_begun}
use Rattle.rhd_laws.specs.FirstAsks.{IsOnConstant}
use Rattle.rhd_laws.proofs.FirstAnswered.{ends_missing, constant_of, runs_first}

-- how many calls were begun, of a node with the trees of its children
row_count : (n : _) (row : Row_of-CallNode n) → begun_in_row row ≡ sum_by begun_in (items-the_row-CallNode n row)
row_count n end_of-CallNode = refl
row_count n (more_of-CallNode node rest) = ap (λ k. begun_in node + k) (row_count _ rest) ∙ sym (sum_by-cons begun_in node (items-the_row-CallNode _ rest))

nodes_count : (nodes : Nodes) → begun_in_nodes nodes ≡ sum_by begun_in (nodes_in nodes)
nodes_count (Nodes' shape row) = row_count _ row ∙ ap (sum_by begun_in) (sym (nodes_in_row shape row))

pub parts_count : (node : CallNode) → begun_in node ≡ (if (seen node).begun then 1 else 0) + sum_by begun_in (seen node).children
parts_count (CallNode' call level begun whose pick carries children answer extras) =
    let b : (seen (CallNode' call level begun whose pick carries children answer extras)).begun ≡ begun = search (rules, the_lemmas) in
    let ns : (out-CallNode (CallNode' call level begun whose pick carries children answer extras)).children ≡ children = search (rules, the_lemmas) in
    ap (λ k. (if begun then 1 else 0) + k) (nodes_count children) ∙ ap (λ (x : Bool). (if x then 1 else 0) + sum_by begun_in (nodes_in children)) (sym b)
    ∙ ap (λ (x : Nodes). (if (seen (CallNode' call level begun whose pick carries children answer extras)).begun then 1 else 0) + sum_by begun_in (nodes_in x)) (sym ns)

begun_count : (node : CallNode) {call : CallRequest} {level : ℕ} {pick : Option Pick} {carries : List Carry} {children : List CallNode} {end : End}
    → seen node ≡ begun_node call level pick carries children end → begun_in node ≡ 1 + sum_by begun_in children
begun_count node s = parts_count node ∙ ap (λ (x : Seen). (if x.begun then 1 else 0) + sum_by begun_in x.children) s

unbegun_count : (node : CallNode) {call : CallRequest} {level : ℕ} → seen node ≡ unbegun_node call level → begun_in node ≡ 0
unbegun_count node s = parts_count node ∙ ap (λ (x : Seen). (if x.begun then 1 else 0) + sum_by begun_in x.children) s

-- all are begun, where the root and those below its children are
begun_below : (node root : CallNode) → InTree node root → (seen root).begun ≡ true → All AllBegun (seen root).children → (seen node).begun ≡ true
begun_below node root is_root b all = b
begun_below node root (is_below {child = child} among inner) b all = All-contains AllBegun (seen root).children child all among node inner

all_begun : (root : CallNode) {call : CallRequest} {level : ℕ} {pick : Option Pick} {carries : List Carry} {children : List CallNode} {end : End}
    → seen root ≡ begun_node call level pick carries children end → All AllBegun children → AllBegun root
all_begun root {children = children} s all = λ node inside. begun_below node root inside (ap (λ (x : Seen). x.begun) s) (All-same AllBegun (seen root).children children (ap (λ (x : Seen). x.children) s) all)

no_children : (child : CallNode) (children : List CallNode) → children ≡ [] → Contains children child → ⊥
no_children child children e among = let h : Contains [] child = subst (λ (xs : List CallNode). Contains xs child) e among in omega (arith, h.1)

many_push : (carries : List Carry) (children : List CallNode) (carry : Carry) (child : CallNode) → length carries ≡ length children → length (carries ++ carry ∷ []) ≡ length (children ++ child ∷ [])
many_push carries children carry child h = length_push carries carry ∙ ap (λ n. n + 1) h ∙ sym (length_push children child)

same_many : (node : CallNode) (carries : List Carry) (children : List CallNode) → (seen node).carries ≡ carries → (seen node).children ≡ children → length carries ≡ length children → length (seen node).carries ≡ length (seen node).children
same_many node carries children c n h = ap length c ∙ h ∙ sym (ap length n)

module _ {H B : Type 0} (o : Objects H B) (w : World) where
  -- a node shows its own call and level
  pub runs_shows : {f : Frame} {level : ℕ} {call : CallRequest} {node : CallNode} {before after : Moment H B} {cut : Bool} → Runs o w f level call node before after cut → ((seen node).call ≡ call) × ((seen node).level ≡ level)
  runs_shows (not_begun b s) = (ap (λ (x : Seen). x.call) s, ap (λ (x : Seen). x.level) s)
  runs_shows (ended b d s) = (ap (λ (x : Seen). x.call) s, ap (λ (x : Seen). x.level) s)
  runs_shows (host_answered b d a s) = (ap (λ (x : Seen). x.call) s, ap (λ (x : Seen). x.level) s)
  runs_shows (finished b d starts steps e s) = (ap (λ (x : Seen). x.call) s, ap (λ (x : Seen). x.level) s)
  runs_shows (cut_short b d starts steps r s) = (ap (λ (x : Seen). x.call) s, ap (λ (x : Seen). x.level) s)

  mutual
    -- the calls begun are counted by the tree
    pub runs_count : {f : Frame} {level : ℕ} {call : CallRequest} {node : CallNode} {before after : Moment H B} {cut : Bool} → Runs o w f level call node before after cut → after.begun ≡ before.begun + begun_in node
    runs_count (not_begun {node = node} b s) = omega (arith, unbegun_count node s)
    runs_count (ended {node = node} b d s) = omega (arith, begun_count node s)
    runs_count (host_answered {node = node} b d a s) = omega (arith, begun_count node s)
    runs_count (finished {node = node} b d starts steps e s) = omega (arith, begun_count node s, starts_begun starts, steps_count steps)
    runs_count (cut_short {node = node} {child = child} {children = children} b d starts steps r s) = omega (arith, begun_count node s, starts_begun starts, sum_by_push begun_in children child, steps_count steps, runs_count r)

    pub steps_count : {f : Frame} {level : ℕ} {plan : Plan} {pick : Pick} {first last : NativeStep} {carries : List Carry} {children : List CallNode} {before after : Moment H B}
        → Steps o w f level plan pick first carries children last before after → after.begun ≡ before.begun + sum_by begun_in children
    steps_count none_yet = omega arith
    steps_count (one_more {child = child} {children = children} steps r next p q) = omega (arith, ap (sum_by begun_in) q, sum_by_push begun_in children child, resumes_begun next, steps_count steps, runs_count r)

  mutual
    -- no call is begun beyond the budget
    pub runs_spend : {f : Frame} {level : ℕ} {call : CallRequest} {node : CallNode} {before after : Moment H B} {cut : Bool} → Runs o w f level call node before after cut
        → before.begun ≤ w.engine.limits.budget → after.begun ≤ w.engine.limits.budget
    runs_spend (not_begun b s) h = h
    runs_spend (ended b d s) h = omega arith
    runs_spend (host_answered b d a s) h = omega arith
    runs_spend (finished b d starts steps e s) h = steps_spend steps (omega (arith, starts_begun starts))
    runs_spend (cut_short b d starts steps r s) h = runs_spend r (steps_spend steps (omega (arith, starts_begun starts)))

    pub steps_spend : {f : Frame} {level : ℕ} {plan : Plan} {pick : Pick} {first last : NativeStep} {carries : List Carry} {children : List CallNode} {before after : Moment H B}
        → Steps o w f level plan pick first carries children last before after → before.begun ≤ w.engine.limits.budget → after.begun ≤ w.engine.limits.budget
    steps_spend none_yet h = h
    steps_spend (one_more steps r next p q) h = let spent = runs_spend r (steps_spend steps h) in omega (arith, resumes_begun next, spent)

  -- where it was spent, the calls begun stand at it
  pub runs_spent : {f : Frame} {level : ℕ} {call : CallRequest} {node : CallNode} {before after : Moment H B} {cut : Bool} → Runs o w f level call node before after cut → cut ≡ true → after.begun ≡ w.engine.limits.budget
  runs_spent (not_begun b s) spent = b
  runs_spent (ended b d s) spent = absurd cc
  runs_spent (host_answered b d a s) spent = absurd cc
  runs_spent (finished b d starts steps e s) spent = absurd cc
  runs_spent (cut_short b d starts steps r s) spent = runs_spent r refl

  mutual
    -- where the budget lasts, all calls of the tree are begun
    pub runs_begun : {f : Frame} {level : ℕ} {call : CallRequest} {node : CallNode} {before after : Moment H B} {cut : Bool} → Runs o w f level call node before after cut → cut ≡ false → AllBegun node
    runs_begun (not_begun b s) lasts = absurd cc
    runs_begun (ended {node = node} b d s) lasts = all_begun node s (All-nil AllBegun)
    runs_begun (host_answered {node = node} b d a s) lasts = all_begun node s (All-nil AllBegun)
    runs_begun (finished {node = node} b d starts steps e s) lasts = all_begun node s (steps_begun steps)
    runs_begun (cut_short b d starts steps r s) lasts = absurd cc

    pub steps_begun : {f : Frame} {level : ℕ} {plan : Plan} {pick : Pick} {first last : NativeStep} {carries : List Carry} {children : List CallNode} {before after : Moment H B}
        → Steps o w f level plan pick first carries children last before after → All AllBegun children
    steps_begun none_yet = All-nil AllBegun
    steps_begun (one_more {child = child} {children = children} {more_children = more} steps r next p q) = All-same AllBegun more (children ++ child ∷ []) q (All-push AllBegun children child (steps_begun steps) (runs_begun r refl))

  -- where it is spent, the last call isn't begun
  pub runs_cut : {f : Frame} {level : ℕ} {call : CallRequest} {node : CallNode} {before after : Moment H B} {cut : Bool} → Runs o w f level call node before after cut → cut ≡ true → CutTree node
  runs_cut (not_begun b s) spent = cut_here (s ∙ sym (ap (λ (x : Seen). unbegun_node x.call x.level) s))
  runs_cut (ended b d s) spent = absurd cc
  runs_cut (host_answered b d a s) spent = absurd cc
  runs_cut (finished b d starts steps e s) spent = absurd cc
  runs_cut (cut_short {child = child} {children = children} b d starts steps r s) spent =
      cut_below children (ap (λ (x : Seen). x.begun) s) (ap (λ (x : Seen). x.end) s ∙ sym (ap (λ (x : Seen). cut_end x.call) s)) (ap (λ (x : Seen). x.children) s) (steps_begun steps) (runs_cut r refl)

  -- there is one carry for each child
  steps_many : {f : Frame} {level : ℕ} {plan : Plan} {pick : Pick} {first last : NativeStep} {carries : List Carry} {children : List CallNode} {before after : Moment H B}
      → Steps o w f level plan pick first carries children last before after → length carries ≡ length children
  steps_many none_yet = refl
  steps_many (one_more {carry = carry} {child = child} {carries = carries} {children = children} steps r next p q) = ap length p ∙ many_push carries children carry child (steps_many steps) ∙ sym (ap length q)

  pub runs_many : {f : Frame} {level : ℕ} {call : CallRequest} {node : CallNode} {before after : Moment H B} {cut : Bool} → Runs o w f level call node before after cut → length (seen node).carries ≡ length (seen node).children
  runs_many (not_begun {node = node} b s) = same_many node [] [] (ap (λ (x : Seen). x.carries) s) (ap (λ (x : Seen). x.children) s) refl
  runs_many (ended {node = node} b d s) = same_many node [] [] (ap (λ (x : Seen). x.carries) s) (ap (λ (x : Seen). x.children) s) refl
  runs_many (host_answered {node = node} b d a s) = same_many node [] [] (ap (λ (x : Seen). x.carries) s) (ap (λ (x : Seen). x.children) s) refl
  runs_many (finished {node = node} {carries = carries} {children = children} b d starts steps e s) = same_many node carries children (ap (λ (x : Seen). x.carries) s) (ap (λ (x : Seen). x.children) s) (steps_many steps)
  runs_many (cut_short {node = node} {child = child} {carries = carries} {carry = carry} {children = children} b d starts steps r s) =
      same_many node (carries ++ carry ∷ []) (children ++ child ∷ []) (ap (λ (x : Seen). x.carries) s) (ap (λ (x : Seen). x.children) s) (many_push carries children carry child (steps_many steps))

  -- the requests, from the front
  pub steps_requests : {f : Frame} {level : ℕ} {call : CallRequest} {plan : Plan} {pick : Pick} {first last : NativeStep} {carries rest_carries : List Carry} {children rest : List CallNode} {before after : Moment H B} {end : End} {cut : Bool} →
      Steps o w f level plan pick first carries children last before after →
      Requests o w f level call plan pick last rest_carries rest end cut →
      Requests o w f level call plan pick first (carries ++ rest_carries) (children ++ rest) end cut
  steps_requests none_yet requests = requests
  steps_requests {f} {level} {call} {plan} {pick} {first} {carries = more_carries} {rest_carries = rest_carries} {children = more} {rest = rest} {end = end} {cut = cut}
      (one_more {carry = carry} {child = child} {carries = carries} {children = children} steps r next p q) requests =
      let p2 : carries ++ carry ∷ rest_carries ≡ more_carries ++ rest_carries = sym (ap (λ (ks : List Carry). ks ++ rest_carries) p ∙ append_assoc carries (carry ∷ []) rest_carries) in
      let q2 : children ++ child ∷ rest ≡ more ++ rest = sym (ap (λ (ns : List CallNode). ns ++ rest) q ∙ append_assoc children (child ∷ []) rest) in
      subst (λ (ks : List Carry). Requests o w f level call plan pick first ks (more ++ rest) end cut) p2
      (subst (λ (ns : List CallNode). Requests o w f level call plan pick first (carries ++ carry ∷ rest_carries) ns end cut) q2
      (steps_requests steps (one_then (ap (λ (c : CallRequest). Ask c carry) (sym (runs_shows r).0)) next requests)))

  shows_by : (f : Frame) (level : ℕ) (call : CallRequest) (node : CallNode) (plan : Plan) (p pick : Pick) (first : NativeStep) (carries : List Carry) (children : List CallNode) (end : End) (cut : Bool) (from to : Moment H B) →
      plan ≡ plan_of call → seen node ≡ begun_node call level (Some p) carries children end → (seen node).pick ≡ Some pick →
      Starts o w.engine.natives (context f level plan p) p.func (received_by w.engine plan p) from first to →
      Requests o w f level call plan p first carries children end cut →
      ShowsRequests o w f (seen node) pick cut
  shows_by f level call node plan p pick first carries children end cut from to is s h starts requests =
      let q : Some p ≡ Some pick = sym (ap (λ (x : Seen). x.pick) s) ∙ h in
      let same : p ≡ pick = cc in
      subst (λ (x : Pick). ShowsRequests o w f (seen node) x cut) same
      (subst (λ (x : Seen). ShowsRequests o w f x p cut) (sym s)
      (subst (λ (x : Plan). (before : Moment H B) × (step : NativeStep) × (after : Moment H B) × Starts o w.engine.natives (context f level x p) p.func (received_by w.engine x p) before step after × Requests o w f level call x p step carries children end cut) is (from, first, to, starts, requests)))

  -- the children of a node with a pick are its requests, unless that isn't for a constant: then there are none
  pub runs_requests : {f : Frame} {level : ℕ} {call : CallRequest} {node : CallNode} {before after : Moment H B} {cut : Bool} (pick : Pick) → Runs o w f level call node before after cut → (seen node).pick ≡ Some pick
      → ShowsRequests o w f (seen node) pick cut ⊎ (IsOnConstant w.engine (plan_of call) pick × ((seen node).carries ≡ []) × ((seen node).children ≡ []))
  runs_requests pick (not_begun b s) h = let q : None ≡ Some pick = sym (ap (λ (x : Seen). x.pick) s) ∙ h in absurd cc
  runs_requests pick (ended {f = f} {level = level} {call = call} {pick = p} {end = end} b d s) h =
      inr (constant_of w.engine f level call p end pick (ends_missing w.engine f level call p end d) (sym (ap (λ (x : Seen). x.pick) s) ∙ h), ap (λ (x : Seen). x.carries) s, ap (λ (x : Seen). x.children) s)
  runs_requests pick (host_answered b d a s) h = let q : None ≡ Some pick = sym (ap (λ (x : Seen). x.pick) s) ∙ h in absurd cc
  runs_requests pick (finished {f = f} {level = level} {call = call} {node = node} {plan = plan} {pick = p} {first = first} {carries = carries} {children = children} {end = end} b d starts steps e s) h =
      inl (shows_by f level call node plan p pick first carries children end false _ _ (runs_plan w.engine f level call plan p d) s h starts
      (subst (λ (ks : List Carry). Requests o w f level call plan p first ks children end false) (append-nil carries)
      (subst (λ (ns : List CallNode). Requests o w f level call plan p first (carries ++ []) ns end false) (append-nil children)
      (steps_requests steps (no_more e)))))
  runs_requests pick (cut_short {f = f} {level = level} {call = call} {node = node} {child = child} {plan = plan} {pick = p} {first = first} {carries = carries} {carry = carry} {children = children} b d starts steps r s) h =
      inl (shows_by f level call node plan p pick first (carries ++ carry ∷ []) (children ++ child ∷ []) (cut_end call) true _ _ (runs_plan w.engine f level call plan p d) s h starts
      (steps_requests steps (the_last (ap (λ (c : CallRequest). Ask c carry) (sym (runs_shows r).0)) (runs_cut r refl) refl)))

  -- without a pick there are none
  pub runs_alone : {f : Frame} {level : ℕ} {call : CallRequest} {node : CallNode} {before after : Moment H B} {cut : Bool} → Runs o w f level call node before after cut → (seen node).pick ≡ None
      → ((seen node).carries ≡ []) × ((seen node).children ≡ [])
  runs_alone (not_begun b s) h = (ap (λ (x : Seen). x.carries) s, ap (λ (x : Seen). x.children) s)
  runs_alone (ended b d s) h = (ap (λ (x : Seen). x.carries) s, ap (λ (x : Seen). x.children) s)
  runs_alone (host_answered b d a s) h = (ap (λ (x : Seen). x.carries) s, ap (λ (x : Seen). x.children) s)
  runs_alone (finished {pick = p} b d starts steps e s) h = let q : Some p ≡ None = sym (ap (λ (x : Seen). x.pick) s) ∙ h in absurd cc
  runs_alone (cut_short {pick = p} b d starts steps r s) h = let q : Some p ≡ None = sym (ap (λ (x : Seen). x.pick) s) ∙ h in absurd cc

  -- nor are there any of a function that isn't for a constant
  pub runs_constant : {f : Frame} {level : ℕ} {call : CallRequest} {node : CallNode} {before after : Moment H B} {cut : Bool} (pick : Pick) → Runs o w f level call node before after cut
      → (seen node).pick ≡ Some pick → IsOnConstant w.engine (plan_of call) pick → ((seen node).carries ≡ []) × ((seen node).children ≡ [])
  runs_constant pick (not_begun b s) h on = (ap (λ (x : Seen). x.carries) s, ap (λ (x : Seen). x.children) s)
  runs_constant pick (ended b d s) h on = (ap (λ (x : Seen). x.carries) s, ap (λ (x : Seen). x.children) s)
  runs_constant pick (host_answered b d a s) h on = (ap (λ (x : Seen). x.carries) s, ap (λ (x : Seen). x.children) s)
  runs_constant pick (finished {f = f} {level = level} {call = call} {plan = plan} {pick = p} b d starts steps e s) h on =
      let q : Some p ≡ Some pick = sym (ap (λ (x : Seen). x.pick) s) ∙ h in
      let same : p ≡ pick = cc in absurd ((runs_first w.engine f level call plan p d).3 (subst (IsOnConstant w.engine (plan_of call)) (sym same) on))
  runs_constant pick (cut_short {f = f} {level = level} {call = call} {plan = plan} {pick = p} b d starts steps r s) h on =
      let q : Some p ≡ Some pick = sym (ap (λ (x : Seen). x.pick) s) ∙ h in
      let same : p ≡ pick = cc in absurd ((runs_first w.engine f level call plan p d).3 (subst (IsOnConstant w.engine (plan_of call)) (sym same) on))

  -- a call runs by itself in this frame, one level above this one
  abbrev pub RunsUnder : Frame → ℕ → CallNode → Type 0
  RunsUnder f level child = (call : CallRequest) × (before : Moment H B) × (after : Moment H B) × (cut : Bool) × Runs o w f (level + 1) call child before after cut

  -- the frame in which the requests of a node are asked
  abbrev inner : Frame → CallNode → Frame
  inner f node = frame_inside w f (seen node) (seen node).pick

  steps_run : {f : Frame} {level : ℕ} {plan : Plan} {pick : Pick} {first last : NativeStep} {carries : List Carry} {children : List CallNode} {before after : Moment H B} → Steps o w f level plan pick first carries children last before after
      → All (RunsUnder (entered w.environs f level pick) level) children
  steps_run {f} {level} {pick = pick} none_yet = All-nil (RunsUnder (entered w.environs f level pick) level)
  steps_run {f} {level} {pick = pick} (one_more {waited = waited} {child = child} {children = children} {more_children = more} {mid = mid} {answered = answered} steps r next p q) =
      All-same (RunsUnder (entered w.environs f level pick) level) more (children ++ child ∷ []) q (All-push (RunsUnder (entered w.environs f level pick) level) children child (steps_run steps) (waited, mid, answered, false, r))

  none_run : (f : Frame) (level : ℕ) (children : List CallNode) → children ≡ [] → All (RunsUnder f level) children
  none_run f level children e = All-same (RunsUnder f level) children [] e (All-nil (RunsUnder f level))

  -- the children of a node whose function runs
  all_run : (f : Frame) (level : ℕ) (call : CallRequest) (node : CallNode) (pick : Pick) (carries : List Carry) (children : List CallNode) (end : End) → seen node ≡ begun_node call level (Some pick) carries children end
      → All (RunsUnder (entered w.environs f level pick) level) children → All (RunsUnder (inner f node) level) (seen node).children
  all_run f level call node pick carries children end s all =
      subst (λ (g : Frame). All (RunsUnder g level) (seen node).children) (sym (ap (λ (x : Seen). frame_inside w f x x.pick) s))
      (All-same (RunsUnder (entered w.environs f level pick) level) (seen node).children children (ap (λ (x : Seen). x.children) s) all)

  -- so do all children of a node that runs
  pub runs_run : {f : Frame} {level : ℕ} {call : CallRequest} {node : CallNode} {before after : Moment H B} {cut : Bool} → Runs o w f level call node before after cut → All (RunsUnder (inner f node) level) (seen node).children
  runs_run (not_begun {f = f} {level = level} {node = node} b s) = none_run (inner f node) level (seen node).children (ap (λ (x : Seen). x.children) s)
  runs_run (ended {f = f} {level = level} {node = node} b d s) = none_run (inner f node) level (seen node).children (ap (λ (x : Seen). x.children) s)
  runs_run (host_answered {f = f} {level = level} {node = node} b d a s) = none_run (inner f node) level (seen node).children (ap (λ (x : Seen). x.children) s)
  runs_run (finished {f = f} {level = level} {call = call} {node = node} {pick = pick} {carries = carries} {children = children} {end = end} b d starts steps e s) = all_run f level call node pick carries children end s (steps_run steps)
  runs_run (cut_short {f = f} {level = level} {call = call} {waited = waited} {node = node} {child = child} {mid = mid} {after = after} {pick = pick} {carries = carries} {carry = carry} {children = children} b d starts steps r s) =
      all_run f level call node pick (carries ++ carry ∷ []) (children ++ child ∷ []) (cut_end call) s
      (All-push (RunsUnder (entered w.environs f level pick) level) children child (steps_run steps) (waited, mid, after, true, r))

  child_runs : {f : Frame} {level : ℕ} {call : CallRequest} {node : CallNode} {before after : Moment H B} {cut : Bool} (child : CallNode) → Runs o w f level call node before after cut
      → Contains (seen node).children child → RunsUnder (inner f node) level child
  child_runs {f} {level} {node = node} child r among = All-contains (RunsUnder (inner f node) level) (seen node).children child (runs_run r) among

  -- with its own call and level
  runs_at : {f : Frame} {level : ℕ} {call : CallRequest} {node : CallNode} {before after : Moment H B} {cut : Bool} → Runs o w f level call node before after cut → RunsAt o w f node
  runs_at {f} {level} {call} {node} {before} {after} {cut} r = (
    before,
    after,
    cut,
    subst (λ (n : ℕ). Runs o w f n (seen node).call node before after cut) (sym (runs_shows r).1)
        (subst (λ (c : CallRequest). Runs o w f level c node before after cut) (sym (runs_shows r).0) r),
  )

  -- each call of a tree runs, in the frame in which it is asked for
  pub tree_runs : {node root : CallNode} (inside : InTree node root) {f : Frame} {level : ℕ} {call : CallRequest} {before after : Moment H B} {cut : Bool} → Runs o w f level call root before after cut → RunsAt o w (frame_at w f inside) node
  tree_runs is_root r = runs_at r
  tree_runs (is_below {child = child} among below) r = tree_runs below (child_runs child r among).4

  -- it is one level above the call that asked for it
  pub tree_levels : {node root : CallNode} (inside : InTree node root) {f : Frame} {level : ℕ} {call : CallRequest} {before after : Moment H B} {cut : Bool} (child : CallNode)
      → Runs o w f level call root before after cut → Contains (seen node).children child → (seen child).level ≡ (seen node).level + 1
  tree_levels inside child r among = (runs_shows (child_runs child (tree_runs inside r).3 among).4).1

  -- a call that asks is within the limit
  asks_within : {f : Frame} {level : ℕ} {call : CallRequest} {node : CallNode} {before after : Moment H B} {cut : Bool} (child : CallNode) → Runs o w f level call node before after cut
      → Contains (seen node).children child → level ≤ w.engine.limits.level
  asks_within child (not_begun {node = node} b s) among = absurd (no_children child (seen node).children (ap (λ (x : Seen). x.children) s) among)
  asks_within child (ended {node = node} b d s) among = absurd (no_children child (seen node).children (ap (λ (x : Seen). x.children) s) among)
  asks_within child (host_answered {node = node} b d a s) among = absurd (no_children child (seen node).children (ap (λ (x : Seen). x.children) s) among)
  asks_within child (finished {f = f} {level = level} {call = call} {plan = plan} {pick = p} b d starts steps e s) among = runs_within w.engine f level call plan p d
  asks_within child (cut_short {f = f} {level = level} {call = call} {plan = plan} {pick = p} b d starts steps r s) among = runs_within w.engine f level call plan p d

  -- so no call of a tree is more than one level above it
  pub tree_within : {node root : CallNode} (inside : InTree node root) {f : Frame} {level : ℕ} {call : CallRequest} {before after : Moment H B} {cut : Bool}
      → Runs o w f level call root before after cut → level ≤ w.engine.limits.level + 1 → (seen node).level ≤ w.engine.limits.level + 1
  tree_within is_root r h = omega (arith, (runs_shows r).1)
  tree_within (is_below {child = child} among below) r h = tree_within below (child_runs child r among).4 (omega (arith, asks_within child r among))
