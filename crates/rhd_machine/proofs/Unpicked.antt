-- What becomes of a call for which no function is found.
use Rattle.std.proofs.Common.{◌≡◌, ◌<◌, Bool, true, false, [], refl, sym, subst, ap, ◌∙◌}
use Rattle.std.specs.Prelude.{None, Some}
use Rattle.rhd_func.specs.declared.request.HostAnswer.{HostAnswer}
use Rattle.rhd_func.specs.Shapes.{all_args, is_method_shape}
use Rattle.rhd_engine.specs.Engine.{Frame}
use Rattle.rhd_machine.specs.World.{World, Objects, Moment, one_begun}
use Rattle.rhd_call.specs.declared.node.CallNode.{CallNode}
use Rattle.rhd_call.specs.declared.pick.Pick.{Pick}
use Rattle.rhd_machine.specs.Plans.{without_host, plan_of}
use Rattle.rhd_call.specs.End.{End}
use Rattle.rhd_machine.specs.Ends.{missing_end, host_end}
use Rattle.rhd_machine.specs.Decisions.{pick_of, refusal}
use Rattle.rhd_call.specs.Seen.{Seen, seen, begun_node}
use Rattle.rhd_machine.specs.Filling.{is_begun, with_end, picking}
use Rattle.rhd_machine.specs.Runs.{Runs, ended, host_answered}
use Rattle.rhd_machine.proofs.Found.{decided_ends, decided_asks}

-- the node of a call that was just begun, ended
pub as_ended : (s : Seen) (end : End) → is_begun s → with_end s end ≡ begun_node s.call s.level None [] [] end
as_ended s end begins = ap (λ (x : Seen). with_end x end) begins

-- the same with its pick
pub as_picked : (s : Seen) (pick : Pick) (end : End) → is_begun s → picking (with_end s end) pick ≡ begun_node s.call s.level (Some pick) [] [] end
as_picked s pick end begins = ap (λ (x : Seen). picking (with_end x end) pick) begins

module _ {H B : Type 0} (o : Objects H B) (w : World) (f : Frame) (old node : CallNode) (before : Moment H B) (host : H) where
  -- it isn't found, or the host answers it
  pub unpicked_runs : is_begun (seen old) → before.begun < w.engine.limits.budget → refusal w.engine f (seen old).level (seen old).call ≡ None → None ≡ pick_of w.engine f (plan_of (seen old).call) →
      (without_host (plan_of (seen old).call).search ≡ true → (host ≡ before.host) × (seen node ≡ with_end (seen old) (missing_end w.engine (plan_of (seen old).call)))) →
      (without_host (plan_of (seen old).call).search ≡ false → (answer : HostAnswer) × o.host_answers before.host (plan_of (seen old).call).name (all_args (plan_of (seen old).call).shape) (is_method_shape (plan_of (seen old).call).shape) answer host × (seen node ≡ with_end (seen old) (host_end w.engine (plan_of (seen old).call) answer))) →
      Runs o w f (seen old).level (seen old).call node before (record (one_begun before) { host = host }) false
  unpicked_runs begins within unrefused none alone asked =
      let level = (seen old).level in
      let call = (seen old).call in
      let by : (b : Bool) → without_host (plan_of call).search ≡ b → Runs o w f level call node before (record (one_begun before) { host = host }) false =
      elim [
        | true ↦ (λ e.
            let a = alone e in
            subst (λ (h : H). Runs o w f level call node before (record (one_begun before) { host = h }) false) (sym a.0)
            (ended within (decided_ends w.engine f level call unrefused e none) (a.1 ∙ as_ended (seen old) (missing_end w.engine (plan_of call)) begins)))
        | false ↦ (λ e. let a = asked e in host_answered within (decided_asks w.engine f level call unrefused e none) a.1 (a.2 ∙ as_ended (seen old) (host_end w.engine (plan_of call) a.0) begins))
      ] in
      by (without_host (plan_of call).search) refl
