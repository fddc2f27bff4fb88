-- Replies whose calls are made in their place, last among the replies.
use Rattle.std.proofs.Common.{slice_set, get_or, ◌≡◌, ℕ, true, false, List, [], ◌∷◌, ◌++◌, refl, sym, subst, ap, ◌∙◌, length}
use Rattle.std.specs.Prelude.{Result, Ok, Err, OnOk, OnErr, is_err}
use Rattle.std.proofs.lemmas.List.{get_or_push}
use Rattle.rhd_func.specs.declared.request.CallRequest.{CallRequest}
use Rattle.rhd_engine.specs.Engine.{Frame}
use Rattle.rhd_machine.specs.World.{World, Objects, Moment}
use Rattle.rhd_call.specs.declared.node.CallNode.{CallNode}
use Rattle.rhd_call.specs.declared.reply.Reply.{Reply}
use Rattle.rhd_call.specs.declared.reply.Reply.TheVariants.{Called}
use Rattle.rhd_call.specs.Seen.{seen}
use Rattle.rhd_machine.specs.CallReplied.{CallReplied}
use Rattle.rhd_machine.specs.Filling.{begun_call, IsBegunFor}

-- what holds of an answer, and of a fault
pub on_ok_of : {T E P : Type 0} (r : Result T E) → OnOk r P → is_err r ≡ false → P
on_ok_of (Ok x) h e = h
on_ok_of (Err x) h e = absurd cc

pub on_err_of : {T E P : Type 0} (r : Result T E) → OnErr r P → is_err r ≡ true → P
on_err_of (Ok x) h e = absurd cc
on_err_of (Err x) h e = h

-- a reply in the place of the last one
set_last : (front : List Reply) (first reply : Reply) → slice_set (front ++ first ∷ []) (length front) reply ≡ front ++ reply ∷ []
set_last [] first reply = refl
set_last (r ∷ front) first reply = ap (λ (rs : List Reply). r ∷ rs) (set_last front first reply)

-- the last reply is begun for its request
pub last_begun : (front all : List Reply) (n : ℕ) (reply : Reply) (node : CallNode) (request : CallRequest) →
    all ≡ front ++ Called node ∷ [] → n ≡ length front → reply ≡ get_or all n reply → seen node ≡ begun_call request 1 → IsBegunFor request reply
last_begun front all n reply node request is at e begun =
    subst (λ (r : Reply). IsBegunFor request r) (sym (e ∙ (λ i. get_or (is i) n reply) ∙ get_or_push front (Called node) reply n (sym at))) begun

module _ {H B : Type 0} (o : Objects H B) (w : World) where
  -- the reply to a call, in the place of the one that was begun
  pub placed : (base : Frame) (front all : List Reply) (n : ℕ) (first reply : Reply) (request same : CallRequest) (before after : Moment H B) →
      all ≡ front ++ first ∷ [] → n ≡ length front → same ≡ request → CallReplied o w base before same reply after →
      (x : Reply) × (slice_set all n reply ≡ front ++ x ∷ []) × CallReplied o w base before request x after
  placed base front all n first reply request same before after is at equal replied = (
    reply,
    (λ i. slice_set (is i) (at i) reply) ∙ set_last front first reply,
    subst (λ (x : CallRequest). CallReplied o w base before x reply after) equal replied,
  )
