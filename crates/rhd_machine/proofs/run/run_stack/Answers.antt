use Rattle.std.proofs.Common.{arith, rules, ◌≡◌, ◌<◌, ap, length, true, false}
use Rattle.std.proofs.lemmas.List.{nil_from_length}
use Rattle.std.proofs.lemmas.Result.{IfOk-weaker}
use Rattle.rhd_engine.specs.declared.limits.Limits.{Limits}
use Rattle.rhd_engine.specs.Of.{lists_of}
use Rattle.rhd_machine.specs.World.{moment}
use Rattle.rhd_machine.proofs.Stack.{root_goes, spent, stack_limited, answer_ends, top_held, state_held}
use Rattle.rhd_machine.proofs.Environs.{above_trans}
use Rattle.rhd_machine.proofs.run.run_stack.Goals as goal

pub loop-hand-init : goal.loop-hand-init
loop-hand-init g c = record {
  going = λ modules call before step. root_goes _ _ c.new-stack.result.items c.put.new.stack.items c.args.state.now c.put.new.state call before (moment c.args.begun.now c.args.host.now c.args.bodies.now) c.args.outcome c.in_ok-hand.hand step c.new-stack.ensures.items c.in_ok-hand.ensures.put;
  above = c.put.ensures.above;
  within = c.requires.within;
  rises = omega arith;
}

pub returns-then-begun-limits-clause-runs : goal.returns-then-begun-limits-clause-runs
unfolding lists_of
returns-then-begun-limits-clause-runs g c = λ modules call before step.
    let going = rw c.in-Asked.is at (c.loop-hand.invariant.going modules call before step) in
    let e : c.len.result ≡ length c.loop-hand.stack.items = search rules in
    let h = rw e at c.in_ok-node-in-Asked.ensures in
    let same : c.limits.result.budget ≡ c.args.engine.now.limits.budget = ap (λ (l : Limits). l.budget) c.limits.ensures in
    let b : c.loop-hand.begun ≡ c.args.engine.now.limits.budget = omega (arith, same, c.loop-hand.invariant.within, c.if-begun-limits.true) in
    IfOk-weaker c.cut_all.result _ _ (λ node r. (true, r)) (c.cut_all.ensures modules c.args.state.now call before (moment c.loop-hand.begun c.loop-hand.host c.loop-hand.bodies) (spent _ _ c.loop-hand.stack.items c.args.state.now c.loop-hand.state call c.in-Asked.request before (moment c.loop-hand.begun c.loop-hand.host c.loop-hand.bodies) c.in_ok-node-in-Asked.node b h going))

pub overflow_cast-level : goal.overflow_cast-level
unfolding lists_of
overflow_cast-level g c =
    let going = rw c.in-Asked.is at (c.loop-hand.invariant.going c.requires.comes.0 c.requires.comes.1 c.requires.comes.2 c.requires.comes.3) in
    let e : c.len.result ≡ length c.loop-hand.stack.items = search rules in
    let l = stack_limited _ _ c.loop-hand.stack.items c.args.state.now c.loop-hand.state c.requires.comes.1 c.requires.comes.2 _ (moment c.loop-hand.begun c.loop-hand.host c.loop-hand.bodies) going in
    omega (arith, e, l, c.args.engine.now.limited)

pub overflow_add-level : goal.overflow_add-level
unfolding lists_of
overflow_add-level g c =
    let going = rw c.in-Asked.is at (c.loop-hand.invariant.going c.requires.comes.0 c.requires.comes.1 c.requires.comes.2 c.requires.comes.3) in
    let e : c.len.result ≡ length c.loop-hand.stack.items = search rules in
    let l = stack_limited _ _ c.loop-hand.stack.items c.args.state.now c.loop-hand.state c.requires.comes.1 c.requires.comes.2 _ (moment c.loop-hand.begun c.loop-hand.host c.loop-hand.bodies) going in
    omega (arith, e, l, c.args.engine.now.limited)

pub ask-requires-clause-held : goal.ask-requires-clause-held
ask-requires-clause-held g c =
    let going = rw c.in-Asked.is at (c.loop-hand.invariant.going c.requires.comes.0 c.requires.comes.1 c.requires.comes.2 c.requires.comes.3) in
    state_held _ _ c.loop-hand.stack.items c.args.state.now c.loop-hand.state c.requires.comes.1 c.requires.comes.2 (moment c.loop-hand.begun c.loop-hand.host c.loop-hand.bodies) _ _ c.requires.environs c.requires.held going

pub ask-requires-clause-few : goal.ask-requires-clause-few
unfolding lists_of
ask-requires-clause-few g c =
    let going = rw c.in-Asked.is at (c.loop-hand.invariant.going c.requires.comes.0 c.requires.comes.1 c.requires.comes.2 c.requires.comes.3) in
    let l = stack_limited _ _ c.loop-hand.stack.items c.args.state.now c.loop-hand.state c.requires.comes.1 c.requires.comes.2 _ (moment c.loop-hand.begun c.loop-hand.host c.loop-hand.bodies) going in
    omega (arith, l, c.args.engine.now.limited)

pub answer-requires : goal.answer-requires
unfolding lists_of
answer-requires g c =
    let going = rw (c.in-Answered.is, c.in-Some.ensures.items) at (c.loop-hand.invariant.going c.requires.comes.0 c.requires.comes.1 c.requires.comes.2 c.requires.comes.3) in
    top_held _ _ c.pop.new.self.items c.in-Some.frame c.args.state.now c.loop-hand.state c.requires.comes.1 c.requires.comes.2 (moment c.loop-hand.begun c.loop-hand.host c.loop-hand.bodies) _ _ c.args.engine.now.globals_held c.args.engine.now.statics_held c.requires.environs c.requires.held c.args.engine.now.builtins_held going

pub returns-in_err-hand-clause-above : goal.returns-in_err-hand-clause-above
returns-in_err-hand-clause-above g c = c.put.ensures.above

pub returns-in_err-hand-in-Asked-clause-above : goal.returns-in_err-hand-in-Asked-clause-above
returns-in_err-hand-in-Asked-clause-above g c = above_trans c.args.state.now c.loop-hand.state c.ask.new.state c.loop-hand.invariant.above c.ask.ensures.above

pub returns-in_err-hand-in-Answered-clause-above : goal.returns-in_err-hand-in-Answered-clause-above
returns-in_err-hand-in-Answered-clause-above g c =
    let going = rw (c.in-Answered.is, c.in-Some.ensures.items) at (c.loop-hand.invariant.going c.requires.comes.0 c.requires.comes.1 c.requires.comes.2 c.requires.comes.3) in
    c.answer.ensures.above c.requires.comes.0 c.args.state.now c.requires.comes.1 c.requires.comes.2 c.loop-hand.begun c.loop-hand.host going

pub loop-hand-preserved-in-Asked : goal.loop-hand-preserved-in-Asked
loop-hand-preserved-in-Asked g c =
    let same : c.limits.result.budget ≡ c.args.engine.now.limits.budget = ap (λ (l : Limits). l.budget) c.limits.ensures in
    let under : c.loop-hand.begun < c.args.engine.now.limits.budget = omega (arith, same, c.if-begun-limits.false) in
    record {
      going = λ modules call before step. c.in_ok-hand-in-Asked.ensures.going modules c.args.state.now call before c.loop-hand.begun under (rw c.in-Asked.is at (c.loop-hand.invariant.going modules call before step));
      above = above_trans c.args.state.now c.loop-hand.state c.ask.new.state c.loop-hand.invariant.above c.in_ok-hand-in-Asked.ensures.above;
      within = omega (arith, under);
      rises = omega (arith, c.loop-hand.invariant.rises);
    }

pub returns-in_default-clause-runs : goal.returns-in_default-clause-runs
returns-in_default-clause-runs g c = λ modules call before step.
    let going = rw c.in-Answered.is at (c.loop-hand.invariant.going modules call before step) in
    let z : length c.loop-hand.stack.items ≡ 0 = search rules in
    (false, answer_ends _ _ c.loop-hand.stack.items c.args.state.now c.loop-hand.state call before (moment c.loop-hand.begun c.loop-hand.host c.loop-hand.bodies) c.in-Answered.node (nil_from_length _ z) going)

pub loop-hand-preserved : goal.loop-hand-preserved
loop-hand-preserved g c =
    let going = rw (c.in-Answered.is, c.in-Some.ensures.items) at (c.loop-hand.invariant.going c.requires.comes.0 c.requires.comes.1 c.requires.comes.2 c.requires.comes.3) in
    record {
      going = λ modules call before step. c.in_ok-hand-in-Answered.ensures.going modules c.args.state.now call before c.loop-hand.begun c.loop-hand.host (rw (c.in-Answered.is, c.in-Some.ensures.items) at (c.loop-hand.invariant.going modules call before step));
      above = c.in_ok-hand-in-Answered.ensures.above c.requires.comes.0 c.args.state.now c.requires.comes.1 c.requires.comes.2 c.loop-hand.begun c.loop-hand.host going;
      within = c.loop-hand.invariant.within;
      rises = c.loop-hand.invariant.rises;
    }
