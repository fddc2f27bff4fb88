use Rattle.std.proofs.Common.{arith, ◌≡◌, ◌≤◌, sym, length, ◌∙◌}
use Rattle.rhd_engine.specs.Of.{lists_of}
use Rattle.rhd_session.specs.Of.{moment_of, state_of}
use Rattle.rhd_session.proofs.Placed.{on_ok_of, on_err_of}
use Rattle.rhd_session.proofs.Lists.{run_whole, stopped_at, stopped_before, stopped_begins, begins_none, stays_same, turn}
use Rattle.rhd_session.proofs.session.Session.run.Goals as goal

pub returns-in_default-clause-gives : goal.returns-in_default-clause-gives
unfolding lists_of
returns-in_default-clause-gives g c =
    let h : c.loop-command.command-index ≤ length c.args.commands.now = omega arith in record {
      last = state_of (λ z. (goal.PluginFunc-dyn g z).info z.1) g.F.Files.texts g.F.Files.faults c.loop-command.self;
      mid = moment_of c.loop-command.self.core c.loop-command.host c.loop-command.bodies;
      answered = stopped_at _ _ _ c.args.commands.now c.loop-command.command-index c.loop-command.replies.items c.from_vec.result _ _ h c.from_vec.ensures c.loop-command.invariant.answered;
      stays = stays_same _;
      begins = λ other stands. stopped_begins _ _ _ c.args.commands.now c.loop-command.command-index c.command-item.result other c.loop-command.replies.items c.from_vec.result _ _ _ _ c.loop-command-test.true c.command-item.is c.from_vec.ensures c.loop-command.invariant.answered stands (begins_none _ _);
      short = stopped_before _ _ _ c.args.commands.now c.loop-command.command-index c.loop-command.replies.items c.from_vec.result _ _ c.loop-command-test.true c.from_vec.ensures c.loop-command.invariant.answered;
      within = c.loop-command.self.core.within;
    }

pub returns-then-is_err-clause-gives : goal.returns-then-is_err-clause-gives
unfolding lists_of
returns-then-is_err-clause-gives g c =
    let h : c.loop-command.command-index ≤ length c.args.commands.now = omega arith in
    let failed = on_err_of c.perform.result c.perform.ensures.failed (sym c.is_err.ensures.value ∙ c.if-is_err.true) in
    let kept = c.from_vec-then-is_err.ensures ∙ failed.0 in record {
      last = state_of (λ z. (goal.PluginFunc-dyn g z).info z.1) g.F.Files.texts g.F.Files.faults c.loop-command.self;
      mid = moment_of c.loop-command.self.core c.loop-command.host c.loop-command.bodies;
      answered = stopped_at _ _ _ c.args.commands.now c.loop-command.command-index c.loop-command.replies.items c.from_vec-then-is_err.result _ _ h kept c.loop-command.invariant.answered;
      stays = failed.1;
      begins = λ other stands. stopped_begins _ _ _ c.args.commands.now c.loop-command.command-index c.command-item.result other c.loop-command.replies.items c.from_vec-then-is_err.result _ _ _ _ c.loop-command-test.true c.command-item.is kept c.loop-command.invariant.answered stands (simp c.in-Ok.ensures at c.perform.ensures.begins);
      short = stopped_before _ _ _ c.args.commands.now c.loop-command.command-index c.loop-command.replies.items c.from_vec-then-is_err.result _ _ c.loop-command-test.true kept c.loop-command.invariant.answered;
      within = c.perform.new.self.core.within;
    }

pub loop-command-preserved : goal.loop-command-preserved
loop-command-preserved g c =
    let i = c.loop-command.invariant in
    let replied = on_ok_of c.perform.result (simp (i.natives, i.loader) at c.perform.ensures.replied) (sym c.is_err.ensures.value ∙ c.if-is_err.false) in
    record {
      count = omega (arith, i.count, c.perform.ensures.count);
      natives = c.perform.ensures.natives ∙ i.natives;
      loader = c.perform.ensures.loader ∙ i.loader;
      answered = turn _ _ _ c.args.commands.now c.loop-command.command-index c.command-item.result c.in-Ok.command c.loop-command.replies.items c.perform.new.replies.items replied.0 _ _ _ _ c.loop-command-test.true c.command-item.is c.in-Ok.ensures replied.1 i.answered replied.2;
    }

pub returns-clause-gives : goal.returns-clause-gives
returns-clause-gives g c =
    let i : c.loop-command.command-index ≡ length c.args.commands.now = omega arith in
    run_whole _ _ _ c.args.commands.now c.loop-command.command-index c.loop-command.replies.items c.from_vec-2.result _ _ i c.from_vec-2.ensures c.loop-command.invariant.answered
