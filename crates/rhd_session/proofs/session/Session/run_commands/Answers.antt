use Rattle.std.proofs.Common.{arith, ◌≤◌, ◌∷◌, [], sym, length, ◌∙◌}
use Rattle.std.proofs.lemmas.List.{length-append}
use Rattle.std.proofs.IntoIterSteps.{All-taken}
use Rattle.rhd_engine.specs.Of.{lists_of}
use Rattle.rhd_session.specs.Of.{moment_of, state_of}
use Rattle.rhd_session.proofs.Placed.{on_ok_of, on_err_of}
use Rattle.rhd_session.proofs.Lists.{taken_next, answered_front, answered_next, run_taken, stopped_at, stopped_before, stopped_begins}
use Rattle.rhd_session.proofs.session.Session.run_commands.Goals as goal

pub returns-then-is_err-clause-gives : goal.returns-then-is_err-clause-gives
unfolding lists_of
returns-then-is_err-clause-gives g c =
    let all = c.args.commands in
    let done = c.loop-command.yielded in
    let items = c.into_iter-command-iterator.ensures.into_iter_gives.0 ∙ c.into_vec-command-items.ensures in
    let next = taken_next all done c.into_iter-command-iterator.result c.loop-command.command-iterator c.next.new.self c.in-Some.command items c.loop-command.yielded_by c.in-Some.ensures.steps.0 in
    let failed = on_err_of c.perform.result c.perform.ensures.failed (sym c.is_err.ensures.value ∙ c.if-is_err.true) in
    let kept = c.from_vec.ensures ∙ failed.0 in
    let front = answered_front _ _ _ all done c.loop-command.made.items _ _ next.0 c.loop-command.invariant.answered in
    let h : length done ≤ length all = omega (arith, next.2) in record {
      last = state_of (λ z. (goal.PluginFunc-dyn g z).info z.1) g.F.Files.texts g.F.Files.faults c.loop-command.self;
      mid = moment_of c.loop-command.self.core c.loop-command.host c.loop-command.bodies;
      answered = stopped_at _ _ _ all (length done) c.loop-command.made.items c.from_vec.result _ _ h kept front;
      stays = failed.1;
      begins = λ other stands. stopped_begins _ _ _ all (length done) c.in-Some.command other c.loop-command.made.items c.from_vec.result _ _ _ _ next.2 next.1 kept front stands c.perform.ensures.begins;
      short = stopped_before _ _ _ all (length done) c.loop-command.made.items c.from_vec.result _ _ next.2 kept front;
      within = c.perform.new.self.core.within;
    }

pub loop-command-preserved : goal.loop-command-preserved
loop-command-preserved g c =
    let i = c.loop-command.invariant in
    let replied = on_ok_of c.perform.result (simp (i.natives, i.loader) at c.perform.ensures.replied) (sym c.is_err.ensures.value ∙ c.if-is_err.false) in
    record {
      count = omega (arith, i.count, c.perform.ensures.count, length-append c.loop-command.yielded (c.in-Some.command ∷ []));
      natives = c.perform.ensures.natives ∙ i.natives;
      loader = c.perform.ensures.loader ∙ i.loader;
      answered = answered_next _ _ _ c.loop-command.yielded c.loop-command.made.items c.perform.new.replies.items _ _ c.in-Some.command replied.0 _ _ replied.1 i.answered replied.2;
    }

pub returns-clause-gives : goal.returns-clause-gives
returns-clause-gives g c =
    let all = All-taken c.into_iter-command-iterator.result c.loop-command.yielded (c.next.new.self, (c.loop-command.command-iterator, c.loop-command.yielded_by, c.in-None.ensures.steps)) ∙ c.into_iter-command-iterator.ensures.into_iter_gives.0 ∙ c.into_vec-command-items.ensures in
    run_taken _ _ _ c.args.commands c.loop-command.yielded c.loop-command.made.items c.from_vec-2.result _ _ all c.from_vec-2.ensures c.loop-command.invariant.answered
