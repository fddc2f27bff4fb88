use Rattle.std.proofs.Common.{arith, ◌≡◌, ◌<◌, ◌+◌, true, false, [], refl, ap}
use Rattle.std.proofs.lemmas.Result.{on_ok_weaker}
use Rattle.rhd_engine.specs.declared.limits.Limits.{Limits}
use Rattle.rhd_engine.specs.Of.{lists_of}
use Rattle.rhd_machine.specs.World.{moment}
use Rattle.rhd_machine.specs.Waits.{outcome_of}
use Rattle.rhd_machine.proofs.Filled.{begun_at}
use Rattle.rhd_machine.proofs.Stack.{begins_as, root_ends, root_spent}
use Rattle.rhd_machine.proofs.run.fill.Goals as goal

pub returns-then-begun-limits-clause-replied : goal.returns-then-begun-limits-clause-replied
unfolding lists_of
returns-then-begun-limits-clause-replied g c = λ modules call is.
    let same : c.limits.result.budget ≡ c.args.engine.now.limits.budget = ap (λ (l : Limits). l.budget) c.limits.ensures in
    let b : c.args.begun.now ≡ c.args.engine.now.limits.budget = omega (arith, same, c.requires.within, c.if-begun-limits.true) in
    on_ok_weaker c.spend.result (λ e. (true, root_spent _ _ c.args.state.now call (moment c.args.begun.now c.args.host.now c.args.bodies.now) c.spend.new.node b e)) (c.spend.ensures call 1 (begun_at c.args.reply.now c.in-Called.node call c.in-Called.is is))

pub fill_on-requires-clause-comes : goal.fill_on-requires-clause-comes
fill_on-requires-clause-comes g c =
    let same : c.limits.result.budget ≡ c.args.engine.now.limits.budget = ap (λ (l : Limits). l.budget) c.limits.ensures in
    let under : c.args.begun.now < c.args.engine.now.limits.budget = omega (arith, same, c.if-begun-limits.false) in (
      [],
      c.begin.new.node,
      c.requires.begun.0,
      moment c.args.begun.now c.args.host.now c.args.bodies.now,
      refl,
      begins_as _ _ c.args.state.now _ _ c.in-Called.node _ _ _ _ (begun_at c.args.reply.now c.in-Called.node _ c.in-Called.is c.requires.begun.1) (ap (outcome_of c.begin.new.node) c.in-Ok-Some.field-0-is) (λ begins. c.in-Ok-Some.ensures [] c.args.envs.now.items c.args.begun.now begins under),
    )

pub returns-in-Ok-None-clause-replied : goal.returns-in-Ok-None-clause-replied
returns-in-Ok-None-clause-replied g c = λ modules call is.
    let same : c.limits.result.budget ≡ c.args.engine.now.limits.budget = ap (λ (l : Limits). l.budget) c.limits.ensures in
    let under : c.args.begun.now < c.args.engine.now.limits.budget = omega (arith, same, c.if-begun-limits.false) in (
      false,
      root_ends _ _ c.args.state.now call (moment c.args.begun.now c.args.host.now c.args.bodies.now) (moment (c.args.begun.now + 1) c.begin.new.host c.begin.new.bodies) (outcome_of c.begin.new.node c.in-Ok-None.field-0) c.begin.new.node
          (begins_as _ _ c.args.state.now _ _ c.in-Called.node _ _ _ _ (begun_at c.args.reply.now c.in-Called.node call c.in-Called.is is) refl (λ begins. c.in-Ok-None.ensures modules c.args.envs.now.items c.args.begun.now begins under))
          (ap (outcome_of c.begin.new.node) c.in-Ok-None.field-0-is),
    )

pub returns-in-Ok-Some-clause-replied : goal.returns-in-Ok-Some-clause-replied
returns-in-Ok-Some-clause-replied g c = λ modules call is.
    let same : c.limits.result.budget ≡ c.args.engine.now.limits.budget = ap (λ (l : Limits). l.budget) c.limits.ensures in
    let under : c.args.begun.now < c.args.engine.now.limits.budget = omega (arith, same, c.if-begun-limits.false) in
    c.fill_on.ensures.replied modules c.begin.new.node call (moment c.args.begun.now c.args.host.now c.args.bodies.now) refl
    (begins_as _ _ c.args.state.now _ _ c.in-Called.node _ _ _ _ (begun_at c.args.reply.now c.in-Called.node call c.in-Called.is is) (ap (outcome_of c.begin.new.node) c.in-Ok-Some.field-0-is) (λ begins. c.in-Ok-Some.ensures modules c.args.envs.now.items c.args.begun.now begins under))
