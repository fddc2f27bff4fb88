-- What each call of a tree shows, and where it ends with fault 9 or 10.
use Rattle.std.proofs.Common.{◌≡◌, ℕ, ◌<◌, Bool, true, false, List, [], refl, sym, ap, ◌∙◌, ◌⊎◌, inl, inr, arith}
use Rattle.std.specs.Prelude.{◌↔◌, None, Some, Err}
use Rattle.rhd_value.specs.Tree.{Bytes}
use Rattle.rhd_value.specs.declared.fault.EvalAltResult.TheVariants.{ErrorTooManyOperations, ErrorStackOverflow}
use Rattle.rhd_value.specs.declared.tag.Position.{Position}
use Rattle.rhd_func.specs.declared.request.CallRequest.{CallRequest}
use Rattle.rhd_func.specs.Shapes.{given, pos_of}
use Rattle.rhd_call.specs.declared.node.CallNode.{CallNode}
use Rattle.rhd_call.specs.declared.node.Whose.TheVariants.{Call}
use Rattle.rhd_call.specs.declared.pick.Pick.{Pick}
use Rattle.rhd_engine.specs.Engine.{EngineLists, Frame}
use Rattle.rhd_machine.specs.World.{World, Objects, Moment}
use Rattle.rhd_call.specs.End.{End, failed}
use Rattle.rhd_machine.specs.Decisions.{ends, asks_host, refusal}
use Rattle.rhd_laws.specs.FirstAsks.{IsAnsweredFirst, EndsAlone}
use Rattle.rhd_laws.specs.Causes.{IsOwn}
use Rattle.rhd_laws.specs.Hosts.{EndsByHost}
use Rattle.rhd_call.specs.Seen.{Seen, seen, begun_node, unbegun_node}
use Rattle.rhd_machine.specs.Runs.{Runs, not_begun, ended, host_answered, finished, cut_short}
use Rattle.rhd_call.specs.Trees.{InTree, is_root}
use Rattle.rhd_machine.specs.Trees.{frame_at}
use Rattle.rhd_machine.proofs.Found.{runs_within, decided_deep, deep_end, locked_end, rootless_end, deep_refused}
use Rattle.rhd_laws.proofs.Refusals.{Refused, for_level, for_lock, for_path, refused}
use Rattle.rhd_laws.proofs.NodeEnds.{runs_end, spends_not, overflows}
use Rattle.rhd_laws.proofs.FirstAnswered.{ends_pick, runs_pick, asks_no_pick, shows_first, shows_missing, shows_unbegun}
use Rattle.rhd_laws.proofs.TreeLaws.{tree_runs, runs_begun}

not_deep : (call : CallRequest) (n : ℕ) → locked_end call n ≡ deep_end call → ⊥
not_deep call n h = let same : (locked_end call n).answer ≡ (deep_end call).answer = ap (λ (x : End). x.answer) h in absurd cc

path_not_deep : (call : CallRequest) (path : List Bytes) → rootless_end call path ≡ deep_end call → ⊥
path_not_deep call path h = let same : (rootless_end call path).answer ≡ (deep_end call).answer = ap (λ (x : End). x.answer) h in absurd cc

-- a call is refused for its level exactly where that is above the limit
deep_by : {e : EngineLists} {f : Frame} {level : ℕ} {call : CallRequest} → Refused e f level call (deep_end call) → e.limits.level < level
deep_by (for_level deep h) = deep
deep_by {call = call} (for_lock n l unqualified place h) = absurd (not_deep call n (sym h))
deep_by {call = call} (for_path path l search none h) = absurd (path_not_deep call path (sym h))

refused_deep : (e : EngineLists) (f : Frame) (level : ℕ) (call : CallRequest) → refusal e f level call ≡ Some (deep_end call) → e.limits.level < level
refused_deep e f level call h = deep_by (refused e f level call (deep_end call) h)

pub refused_exactly : (e : EngineLists) (f : Frame) (level : ℕ) (call : CallRequest) → (refusal e f level call ≡ Some (failed (given call) (ErrorStackOverflow (pos_of call)))) ↔ (e.limits.level < level)
refused_exactly e f level call = (refused_deep e f level call, deep_refused e f level call)

module _ {H B : Type 0} (o : Objects H B) (w : World) where
  -- a call isn't begun exactly where the budget was spent before it
  begun_within : {f : Frame} {level : ℕ} {call : CallRequest} {node : CallNode} {before after : Moment H B} {cut : Bool} → Runs o w f level call node before after cut → before.begun ≡ w.engine.limits.budget → (seen node).begun ≡ false
  begun_within (not_begun b s) h = ap (λ (x : Seen). x.begun) s
  begun_within (ended b d s) h = absurd (omega arith)
  begun_within (host_answered b d a s) h = absurd (omega arith)
  begun_within (finished b d starts steps e s) h = absurd (omega arith)
  begun_within (cut_short b d starts steps r s) h = absurd (omega arith)

  pub unbegun_exactly : {f : Frame} {level : ℕ} {call : CallRequest} {node : CallNode} {before after : Moment H B} {cut : Bool} → Runs o w f level call node before after cut
      → ((seen node).begun ≡ false) ↔ (before.begun ≡ w.engine.limits.budget)
  unbegun_exactly r = (λ h. (shows_unbegun r h).0, begun_within r)

  -- a call answers fault 9 of its own exactly where the budget was spent in it
  cut_answers : {f : Frame} {level : ℕ} {call : CallRequest} {node : CallNode} {before after : Moment H B} {cut : Bool} → Runs o w f level call node before after cut → cut ≡ true
      → ((seen node).end.whose ≡ Call) × ((seen node).end.answer ≡ Err (ErrorTooManyOperations (pos_of call)))
  cut_answers (not_begun b s) h = (ap (λ (x : Seen). x.end.whose) s, ap (λ (x : Seen). x.end.answer) s)
  cut_answers (ended b d s) h = absurd cc
  cut_answers (host_answered b d a s) h = absurd cc
  cut_answers (finished b d starts steps e s) h = absurd cc
  cut_answers (cut_short b d starts steps r s) h = (ap (λ (x : Seen). x.end.whose) s, ap (λ (x : Seen). x.end.answer) s)

  answers_cut : {f : Frame} {level : ℕ} {call : CallRequest} {node : CallNode} {before after : Moment H B} {cut : Bool} → Runs o w f level call node before after cut → (seen node).end.whose ≡ Call
      → (seen node).end.answer ≡ Err (ErrorTooManyOperations (pos_of call)) → cut ≡ true
  answers_cut {cut = true} r is fault = refl
  answers_cut {node = node} {cut = false} r is fault = absurd (spends_not o w (runs_end o w r) refl (runs_begun o w r refl node is_root) (is, fault))

  pub cut_exactly : {f : Frame} {level : ℕ} {call : CallRequest} {node : CallNode} {before after : Moment H B} {cut : Bool} → Runs o w f level call node before after cut
      → (cut ≡ true) ↔ (((seen node).end.whose ≡ Call) × ((seen node).end.answer ≡ Err (ErrorTooManyOperations (pos_of call))))
  cut_exactly r = (cut_answers r, λ h. answers_cut r h.0 h.1)

  -- a call that is begun above the level limit ends with fault 10, and nothing runs
  pub deep_shown : {f : Frame} {level : ℕ} {call : CallRequest} {node : CallNode} {before after : Moment H B} {cut : Bool} → Runs o w f level call node before after cut → (seen node).begun ≡ true
      → w.engine.limits.level < level → seen node ≡ begun_node call level None [] [] (failed (given call) (ErrorStackOverflow (pos_of call)))
  deep_shown (not_begun b s) begun h = let q : false ≡ true = sym (ap (λ (x : Seen). x.begun) s) ∙ begun in absurd cc
  deep_shown (ended {f = f} {level = level} {call = call} {pick = pick} {end = end} b d s) begun h =
      let q : ends pick end ≡ ends None (deep_end call) = sym d ∙ decided_deep w.engine f level call h in
      let p : pick ≡ None = cc in
      let e : end ≡ deep_end call = cc in
      s ∙ (λ i. begun_node call level (p i) [] [] (e i))
  deep_shown (host_answered {f = f} {level = level} {call = call} {plan = plan} b d a s) begun h = let q : asks_host plan ≡ ends None (deep_end call) = sym d ∙ decided_deep w.engine f level call h in absurd cc
  deep_shown (finished {f = f} {level = level} {call = call} {plan = plan} {pick = pick} b d starts steps e s) begun h = absurd (omega (arith, runs_within w.engine f level call plan pick d))
  deep_shown (cut_short {f = f} {level = level} {call = call} {plan = plan} {pick = pick} b d starts steps r s) begun h = absurd (omega (arith, runs_within w.engine f level call plan pick d))

  deep_only : {f : Frame} {level : ℕ} {call : CallRequest} {node : CallNode} {before after : Moment H B} {cut : Bool} → Runs o w f level call node before after cut → (seen node).begun ≡ true
      → (seen node).end ≡ failed (given call) (ErrorStackOverflow (pos_of call)) → w.engine.limits.level < level
  deep_only {call = call} r begun h = (overflows o w (pos_of call) (runs_end o w r) begun (ap (λ (x : End). x.whose) h, ap (λ (x : End). x.answer) h)).0

  pub deep_exactly : {f : Frame} {level : ℕ} {call : CallRequest} {node : CallNode} {before after : Moment H B} {cut : Bool} → Runs o w f level call node before after cut → (seen node).begun ≡ true
      → ((seen node).end ≡ failed (given call) (ErrorStackOverflow (pos_of call))) ↔ (w.engine.limits.level < level)
  deep_exactly r begun = (deep_only r begun, λ h. ap (λ (x : Seen). x.end) (deep_shown r begun h))

  -- the same of a fault 10 of its own, which a function's fault 10 isn't
  pub deep_own : {f : Frame} {level : ℕ} {call : CallRequest} {node : CallNode} {before after : Moment H B} {cut : Bool} (pos : Position) → Runs o w f level call node before after cut → (seen node).begun ≡ true →
      IsOwn (seen node).end (ErrorStackOverflow pos) ↔ ((w.engine.limits.level < level) × (pos ≡ pos_of call))
  deep_own pos r begun = (
    overflows o w pos (runs_end o w r) begun,
    λ h. let s = deep_shown r begun h.0 in (ap (λ (x : Seen). x.end.whose) s, ap (λ (x : Seen). x.end.answer) s ∙ ap (λ (p : Position). Err (ErrorStackOverflow p)) (sym h.1)),
  )

  -- a call that is begun has a pick exactly where nothing refuses it, and that is the first that is found
  first_shown : {f : Frame} {level : ℕ} {call : CallRequest} {node : CallNode} {before after : Moment H B} {cut : Bool} (pick : Pick) → Runs o w f level call node before after cut
      → (seen node).begun ≡ true → (refusal w.engine f level call ≡ None) × IsAnsweredFirst w.engine f call pick → (seen node).pick ≡ Some pick
  first_shown pick (not_begun b s) begun h = let q : false ≡ true = sym (ap (λ (x : Seen). x.begun) s) ∙ begun in absurd cc
  first_shown pick (ended {f = f} {level = level} {call = call} {pick = p} {end = end} b d s) begun h = ap (λ (x : Seen). x.pick) s ∙ ends_pick w.engine f level call pick p end h d
  first_shown pick (host_answered {f = f} {level = level} {call = call} {plan = plan} b d a s) begun h = absurd (asks_no_pick w.engine f level call pick plan h d)
  first_shown pick (finished {f = f} {level = level} {call = call} {plan = plan} {pick = p} b d starts steps e s) begun h = ap (λ (x : Seen). x.pick) s ∙ ap Some (runs_pick w.engine f level call pick plan p h d)
  first_shown pick (cut_short {f = f} {level = level} {call = call} {plan = plan} {pick = p} b d starts steps r s) begun h = ap (λ (x : Seen). x.pick) s ∙ ap Some (runs_pick w.engine f level call pick plan p h d)

  -- so has each call of a tree, by the frame in which it is asked for
  pub tree_picked : {node root : CallNode} (inside : InTree node root) {f : Frame} {level : ℕ} {call : CallRequest} {before after : Moment H B} {cut : Bool} (pick : Pick)
      → Runs o w f level call root before after cut → (seen node).begun ≡ true →
      ((seen node).pick ≡ Some pick) ↔ ((refusal w.engine (frame_at w f inside) (seen node).level (seen node).call ≡ None) × IsAnsweredFirst w.engine (frame_at w f inside) (seen node).call pick)
  tree_picked inside pick r begun = (λ h. shows_first pick (tree_runs o w inside r).3 h, λ h. first_shown pick (tree_runs o w inside r).3 begun h)

  pub tree_alone : {node root : CallNode} (inside : InTree node root) {f : Frame} {level : ℕ} {call : CallRequest} {before after : Moment H B} {cut : Bool}
      → Runs o w f level call root before after cut → (seen node).begun ≡ true → (seen node).pick ≡ None →
      EndsAlone w.engine (frame_at w f inside) (seen node).level (seen node).call None (seen node).end ⊎ ((from : H) × (to : H) × EndsByHost o w.engine (frame_at w f inside) (seen node).level (seen node).call from to (seen node).end)
  tree_alone {node = node} inside {f} r begun h =
      let own = tree_runs o w inside r in
      let by : EndsAlone w.engine (frame_at w f inside) (seen node).level (seen node).call None (seen node).end ⊎ EndsByHost o w.engine (frame_at w f inside) (seen node).level (seen node).call own.0.host own.1.host (seen node).end → EndsAlone w.engine (frame_at w f inside) (seen node).level (seen node).call None (seen node).end ⊎ ((from : H) × (to : H) × EndsByHost o w.engine (frame_at w f inside) (seen node).level (seen node).call from to (seen node).end) =
      elim [ inl alone ↦ inl alone | inr asked ↦ inr (own.0.host, own.1.host, asked) ]
      in by (shows_missing own.3 begun h)

  pub tree_unbegun : {node root : CallNode} (inside : InTree node root) {f : Frame} {level : ℕ} {call : CallRequest} {before after : Moment H B} {cut : Bool}
      → Runs o w f level call root before after cut → (seen node).begun ≡ false → seen node ≡ unbegun_node (seen node).call (seen node).level
  tree_unbegun inside r h = (shows_unbegun (tree_runs o w inside r).3 h).2
