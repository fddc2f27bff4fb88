-- Trees that the definitions refuse.
use Rattle.std.proofs.Common.{◌≡◌, ℕ, Bool, true, false, List, [], ◌∷◌, refl, sym, ap, subst, ◌∙◌}
use Rattle.std.specs.Prelude.{Some}
use Rattle.std.specs.List.{Contains}
use Rattle.std.proofs.lemmas.List.Elements.{Contains-push}
use Rattle.rhd_func.specs.declared.request.CallRequest.{CallRequest}
use Rattle.rhd_func.specs.declared.request.Carry.{Carry}
use Rattle.rhd_func.specs.declared.request.NativeStep.{NativeStep}
use Rattle.rhd_func.specs.declared.request.NativeStep.TheVariants.{Ask}
use Rattle.rhd_call.specs.declared.node.CallNode.{CallNode}
use Rattle.rhd_call.specs.declared.pick.Pick.{Pick}
use Rattle.rhd_engine.specs.Engine.{EngineLists, Frame}
use Rattle.rhd_machine.specs.World.{World, Objects, Moment}
use Rattle.rhd_machine.specs.Plans.{Plan}
use Rattle.rhd_call.specs.End.{End}
use Rattle.rhd_machine.specs.Ends.{end_of}
use Rattle.rhd_machine.specs.Entered.{context}
use Rattle.rhd_call.specs.Seen.{Seen, seen, done_of}
use Rattle.rhd_machine.specs.Steps.{Resumes}
use Rattle.rhd_call.specs.Trees.{is_root, is_below, AllBegun, CutTree, cut_here, cut_below}
use Rattle.rhd_laws.specs.Requests.{Requests, no_more, the_last, one_then}

no_end : (e : EngineLists) (plan : Plan) (pick : Pick) (request : CallRequest) (carry : Carry) (end : End) → end_of e plan pick (Ask request carry) ≡ Some end → ⊥
unfolding end_of
no_end e plan pick request carry end h = absurd cc

module _ {H B : Type 0} (o : Objects H B) (w : World) (f : Frame) (level : ℕ) (call : CallRequest) (plan : Plan) (pick : Pick) where
  dropped_by : {step : NativeStep} {carries : List Carry} {children : List CallNode} {end : End} {cut : Bool} → Requests o w f level call plan pick step carries children end cut
      → (request : CallRequest) (carry : Carry) → step ≡ Ask request carry → children ≡ [] → ⊥
  dropped_by (no_more {end = end} e) request carry is none = no_end w.engine plan pick request carry end (sym (ap (end_of w.engine plan pick) is) ∙ e)
  dropped_by (the_last is' short e) request carry is none = absurd cc
  dropped_by (one_then is' next rest) request carry is none = absurd cc

  -- a function that asks has a child
  pub child_dropped : (request : CallRequest) (carry : Carry) (carries : List Carry) (end : End) (cut : Bool) → Requests o w f level call plan pick (Ask request carry) carries [] end cut → ⊥
  child_dropped request carry carries end cut requests = dropped_by requests request carry refl refl

  other_by : {step : NativeStep} {carries : List Carry} {children : List CallNode} {end : End} {cut : Bool} → Requests o w f level call plan pick step carries children end cut
      → (request : CallRequest) (carry : Carry) (child : CallNode) (rest : List CallNode) → step ≡ Ask request carry → children ≡ child ∷ rest → (seen child).call ≡ request
  other_by (no_more e) request carry child rest is these = absurd cc
  other_by (the_last {carry = c} {child = n} is' short e) request carry child rest is these = let same : Ask (seen n).call c ≡ Ask request carry = sym is' ∙ is in let first : n ≡ child = cc in sym (ap (λ (x : CallNode). (seen x).call) first) ∙ cc
  other_by (one_then {carry = c} {child = n} is' next rest') request carry child rest is these = let same : Ask (seen n).call c ≡ Ask request carry = sym is' ∙ is in let first : n ≡ child = cc in sym (ap (λ (x : CallNode). (seen x).call) first) ∙ cc

  -- its first child has no other call than the one that it asks for
  pub another_call : (request : CallRequest) (carry : Carry) (carries : List Carry) (child : CallNode) (children : List CallNode) (end : End) (cut : Bool)
      → Requests o w f level call plan pick (Ask request carry) carries (child ∷ children) end cut → (seen child).call ≡ request
  another_call request carry carries child children end cut requests = other_by requests request carry child children refl refl

  second_by : {step : NativeStep} {carries : List Carry} {children : List CallNode} {end : End} {cut : Bool} → Requests o w f level call plan pick step carries children end cut → (request : CallRequest) (carry : Carry) (child : CallNode) →
      ((next : NativeStep) (from to : Moment H B) → Resumes o w.engine.natives (context f level plan pick) pick.func carry (done_of child) from next to → (again : CallRequest) × (kept : Carry) × (next ≡ Ask again kept)) →
      step ≡ Ask request carry → children ≡ child ∷ [] → cut ≡ true
  second_by (no_more e) request carry child asks is these = absurd cc
  second_by (the_last is' short e) request carry child asks is these = refl
  second_by (one_then {next = next} {carry = c} {child = n} {children = rest} {before = from} {after = to} is' resumed requests) request carry child asks is these =
      let k : c ≡ carry = (let same : Ask (seen n).call c ≡ Ask request carry = sym is' ∙ is in cc) in
      let m : n ≡ child = cc in
      let none : rest ≡ [] = cc in
      let again = asks next from to (subst (λ (x : Carry). Resumes o w.engine.natives (context f level plan pick) pick.func x (done_of child) from next to) k (subst (λ (x : CallNode). Resumes o w.engine.natives (context f level plan pick) pick.func c (done_of x) from next to) m resumed)) in
      absurd (dropped_by requests again.0 again.1 again.2 none)

  -- a function that asks again after the answer to its first request has a second child, unless the budget was spent in the first
  pub second_dropped : (request : CallRequest) (carry : Carry) (carries : List Carry) (child : CallNode) (end : End) (cut : Bool) →
      ((next : NativeStep) (from to : Moment H B) → Resumes o w.engine.natives (context f level plan pick) pick.func carry (done_of child) from next to → (again : CallRequest) × (kept : Carry) × (next ≡ Ask again kept)) →
      Requests o w f level call plan pick (Ask request carry) carries (child ∷ []) end cut → cut ≡ true
  second_dropped request carry carries child end cut asks requests = second_by requests request carry child asks refl refl

-- where the budget was spent in a tree, not all of its calls are begun
pub cut_not_all : {node : CallNode} → CutTree node → AllBegun node → ⊥
cut_not_all (cut_here {node = node} s) all = let q : false ≡ true = sym (ap (λ (x : Seen). x.begun) s) ∙ all node is_root in absurd cc
cut_not_all (cut_below {node = node} {last = last} earlier b e c before cut) all =
    cut_not_all cut (λ n inside. all n (is_below (subst (λ (ns : List CallNode). Contains ns last) (sym c) (Contains-push earlier last)) inside))
