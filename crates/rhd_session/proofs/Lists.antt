-- Lists of commands and their replies, one more at a time.
use Rattle.std.proofs.Common.{◌≡◌, ℕ, ◌+◌, ◌<◌, ◌≤◌, List, [], ◌∷◌, ◌++◌, refl, sym, subst, length, ap, suc, take, get_or, slice_get, Option, None, Some, ◌∙◌, arith}
use Rattle.std.proofs.lemmas.List.{take_more, length-take, length-append}
use Rattle.std.proofs.lemmas.Option.{get_or_from_slice_get}
use Rattle.std.proofs.Math.Seq.{take-append_seam, get_or-append_seam, take-length}
use Rattle.std.specs.Iterator.{Yields}
use Rattle.std.specs.Vec.Iter.{into_iter_items, into_iter_steps}
use Rattle.std.specs.declared.vec.IntoIter.{IntoIter}
use Rattle.rhd_call.specs.declared.command.Command.{Command}
use Rattle.rhd_call.specs.declared.reply.Reply.{Reply}
use Rattle.rhd_func.specs.declared.request.CallRequest.{CallRequest}
use Rattle.rhd_machine.specs.World.{Moment}
use Rattle.rhd_session.specs.Commands.{call_of}
use Rattle.rhd_session.specs.State.{SessionState, SessionObjects, Stays}
use Rattle.rhd_session.specs.Answered.{Applied, RepliedTo, Replied, BeginsCalls, Answered, Begins}

-- where no call is begun, none is
begins_no_call : (request : Option CallRequest) (n : ℕ) → BeginsCalls request n n
begins_no_call None n = refl
begins_no_call (Some request) n = omega arith

pub begins_none : (command : Command) (n : ℕ) → Begins command n n
begins_none command n = begins_no_call (call_of command) n

-- a command that makes no call begins none
pub declares_begins : (command : Command) (before after : ℕ) → call_of command ≡ None → after ≡ before → Begins command before after
declares_begins command before after none e = subst (λ (r : Option CallRequest). BeginsCalls r before after) (sym none) e

-- where nothing was done, nothing has changed
pub stays_same : (s : SessionState) → Stays s s
stays_same s = (refl, refl, record { same = refl; rises = omega arith })

-- the command of a place is the one that stands there
pub begins_at : (cs : List Command) (i : ℕ) (command other : Command) (before after : ℕ) →
    command ≡ get_or cs i command → slice_get cs i ≡ Some other → Begins command before after → Begins other before after
begins_at cs i command other before after is stands b = subst (λ (c : Command). Begins c before after) (is ∙ get_or_from_slice_get cs i other command stands) b

-- what a list of commands has given, and what is left of it
taken_front : {A : Type 0} (first : IntoIter Command A) (done : List Command) (last : IntoIter Command A) → Yields into_iter_steps first done last → into_iter_items first ≡ done ++ into_iter_items last
taken_front first [] last gave = ap into_iter_items gave
taken_front first (c ∷ done) last gave = gave.1.0 ∙ ap (λ (cs : List Command). c ∷ cs) (taken_front gave.0 done last gave.2)

-- a command stands behind those that were taken before it
pub taken_next : {A : Type 0} (all done : List Command) (first last rest : IntoIter Command A) (command : Command) → into_iter_items first ≡ all → Yields into_iter_steps first done last → into_iter_items last ≡ command ∷ into_iter_items rest →
    (take (length done) all ≡ done) × (command ≡ get_or all (length done) command) × (length done < length all)
taken_next all done first last rest command is gave e =
    let stands : all ≡ done ++ command ∷ into_iter_items rest = sym is ∙ taken_front first done last gave ∙ ap (λ (cs : List Command). done ++ cs) e in (
      ap (take (length done)) stands ∙ take-append_seam done (command ∷ into_iter_items rest),
      sym (ap (λ (cs : List Command). get_or cs (length done) command) stands ∙ get_or-append_seam done command (into_iter_items rest) command),
      omega (arith, ap length stands, length-append done (command ∷ into_iter_items rest)),
    )

module _ {H B : Type 0} (o : SessionObjects H B) where
  -- a command that makes no call is answered by what is applied
  pub applied_replied : (s s2 : SessionState) (before after : Moment H B) (command : Command) (reply : Reply) → call_of command ≡ None → Applied o s command reply s2 → after ≡ before → Replied o s before command reply s2 after
  applied_replied s s2 before after command reply none a e = subst (λ (r : Option CallRequest). RepliedTo o s before command r reply s2 after) (sym none) (a, e)

  -- the commands that were taken are a front of all
  pub answered_front : (t : SessionState) (s : Moment H B) (all done : List Command) (replies : List Reply) (t1 : SessionState) (s1 : Moment H B) →
      take (length done) all ≡ done → Answered o t s done replies t1 s1 → Answered o t s (take (length done) all) replies t1 s1
  answered_front t s all done replies t1 s1 e a = subst (λ (cs : List Command). Answered o t s cs replies t1 s1) (sym e) a

  -- one command more
  pub answered_more : (t : SessionState) (s : Moment H B) (commands : List Command) (replies : List Reply) (t1 : SessionState) (s1 : Moment H B) (command : Command) (reply : Reply) (t2 : SessionState) (s2 : Moment H B) →
      Answered o t s commands replies t1 s1 → Replied o t1 s1 command reply t2 s2 → Answered o t s (commands ++ command ∷ []) (replies ++ reply ∷ []) t2 s2
  answered_more t s [] [] t1 s1 command reply t2 s2 a r = (
    t2,
    s2,
    subst (λ (x : SessionState). Replied o x s command reply t2 s2) a.0 (subst (λ (x : Moment H B). Replied o t1 x command reply t2 s2) a.1 r),
    (refl, refl),
  )
  answered_more t s (c ∷ commands) (p ∷ replies) t1 s1 command reply t2 s2 a r =
      (a.0, a.1, a.2, answered_more a.0 a.1 commands replies t1 s1 command reply t2 s2 a.3 r)
  answered_more t s [] (p ∷ replies) t1 s1 command reply t2 s2 a r = absurd a
  answered_more t s (c ∷ commands) [] t1 s1 command reply t2 s2 a r = absurd a

  -- the same, where its reply goes last
  pub answered_next : (t : SessionState) (s : Moment H B) (commands : List Command) (replies now : List Reply) (t1 : SessionState) (s1 : Moment H B) (command : Command) (reply : Reply) (t2 : SessionState) (s2 : Moment H B) →
      now ≡ replies ++ reply ∷ [] → Answered o t s commands replies t1 s1 → Replied o t1 s1 command reply t2 s2 → Answered o t s (commands ++ command ∷ []) now t2 s2
  answered_next t s commands replies now t1 s1 command reply t2 s2 p a r =
      subst (λ (rs : List Reply). Answered o t s (commands ++ command ∷ []) rs t2 s2) (sym p) (answered_more t s commands replies t1 s1 command reply t2 s2 a r)

  -- as many replies as commands
  pub answered_length : (t : SessionState) (s : Moment H B) (commands : List Command) (replies : List Reply) (t2 : SessionState) (s2 : Moment H B) → Answered o t s commands replies t2 s2 → length replies ≡ length commands
  answered_length t s [] [] t2 s2 a = refl
  answered_length t s (c ∷ commands) (p ∷ replies) t2 s2 a = ap suc (answered_length a.0 a.1 commands replies t2 s2 a.3)
  answered_length t s [] (p ∷ replies) t2 s2 a = absurd a
  answered_length t s (c ∷ commands) [] t2 s2 a = absurd a

  -- all commands are answered
  pub run_taken : (t : SessionState) (s : Moment H B) (all done : List Command) (replies now : List Reply) (t1 : SessionState) (s1 : Moment H B) →
      done ≡ all → now ≡ replies → Answered o t s done replies t1 s1 → Answered o t s all now t1 s1 × (length now ≡ length all)
  run_taken t s all done replies now t1 s1 is e a =
      let b : Answered o t s all now t1 s1 =
      subst (λ (cs : List Command). Answered o t s cs now t1 s1) is (subst (λ (rs : List Reply). Answered o t s done rs t1 s1) (sym e) a) in
      (b, answered_length t s all now t1 s1 b)

  pub run_whole : (t : SessionState) (s : Moment H B) (all : List Command) (i : ℕ) (replies now : List Reply) (t1 : SessionState) (s1 : Moment H B) →
      i ≡ length all → now ≡ replies → Answered o t s (take i all) replies t1 s1 → Answered o t s all now t1 s1 × (length now ≡ length all)
  run_whole t s all i replies now t1 s1 n e a = run_taken t s all (take i all) replies now t1 s1 (ap (λ (k : ℕ). take k all) n ∙ take-length all) e a

  -- stopped after as many commands as replies
  pub stopped_at : (t : SessionState) (s : Moment H B) (commands : List Command) (i : ℕ) (replies now : List Reply) (t1 : SessionState) (s1 : Moment H B) →
      i ≤ length commands → now ≡ replies → Answered o t s (take i commands) replies t1 s1 → Answered o t s (take (length now) commands) now t1 s1
  stopped_at t s commands i replies now t1 s1 h e a =
      let l : i ≡ length now = omega (arith, answered_length t s (take i commands) replies t1 s1 a, length-take i commands, ap length e) in
      subst (λ (k : ℕ). Answered o t s (take k commands) now t1 s1) l
      (subst (λ (r : List Reply). Answered o t s (take i commands) r t1 s1) (sym e) a)

  -- and before all are answered
  pub stopped_before : (t : SessionState) (s : Moment H B) (commands : List Command) (i : ℕ) (replies now : List Reply) (t1 : SessionState) (s1 : Moment H B) →
      i < length commands → now ≡ replies → Answered o t s (take i commands) replies t1 s1 → length now < length commands
  stopped_before t s commands i replies now t1 s1 h e a = omega (arith, answered_length t s (take i commands) replies t1 s1 a, length-take i commands, ap length e)

  -- what the command begins at which it stops
  pub stopped_begins : (t : SessionState) (s : Moment H B) (cs : List Command) (i : ℕ) (command other : Command) (replies now : List Reply) (t1 : SessionState) (s1 : Moment H B) (before after : ℕ) →
      i < length cs → command ≡ get_or cs i command → now ≡ replies → Answered o t s (take i cs) replies t1 s1 → slice_get cs (length now) ≡ Some other → Begins command before after → Begins other before after
  stopped_begins t s cs i command other replies now t1 s1 before after h is e a stands b =
      let l : length now ≡ i = omega (arith, answered_length t s (take i cs) replies t1 s1 a, length-take i cs, ap length e) in
      begins_at cs i command other before after is (subst (λ (k : ℕ). slice_get cs k ≡ Some other) l stands) b

  -- one turn of the loop
  pub turn : (t : SessionState) (s : Moment H B) (commands : List Command) (i : ℕ) (command same : Command) (replies now : List Reply) (reply : Reply) (t1 t2 : SessionState) (s1 s2 : Moment H B) →
      i < length commands → command ≡ get_or commands i command → same ≡ command → now ≡ replies ++ reply ∷ [] →
      Answered o t s (take i commands) replies t1 s1 → Replied o t1 s1 same reply t2 s2 → Answered o t s (take (i + 1) commands) now t2 s2
  turn t s commands i command same replies now reply t1 t2 s1 s2 h is e p a r =
      let cut : take (i + 1) commands ≡ take i commands ++ same ∷ [] = take_more commands i command h ∙ ap (λ (c : Command). take i commands ++ c ∷ []) (sym is ∙ sym e) in
      subst (λ (cs : List Command). Answered o t s cs now t2 s2) (sym cut)
      (answered_next t s (take i commands) replies now t1 s1 same reply t2 s2 p a r)
