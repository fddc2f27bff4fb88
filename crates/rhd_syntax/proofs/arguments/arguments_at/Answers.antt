use Rattle.std.proofs.Common.{◌≡◌, ◌++◌, ◌∷◌, [], ap, sym, ◌∙◌}
use Rattle.rhd_syntax.specs.declared.arguments.Arguments.{Arguments}
use Rattle.rhd_syntax.specs.Arguments.{with_argument}
use Rattle.rhd_syntax.specs.Reading.{is_end, argument_at}
use Rattle.rhd_syntax.proofs.Loops.{turn}
use Rattle.rhd_syntax.proofs.ArgumentLaws.{together_more}
use Rattle.rhd_syntax.proofs.arguments.arguments_at.Goals as goal

pub loop-most-preserved : goal.loop-most-preserved
loop-most-preserved c =
    let i = c.loop-most.invariant in
    let pushed : c.push.new.self ≡ with_argument c.loop-most.arguments c.in_ok-x.x = c.in_ok-push.ensures in (
      i.0 ++ c.in_ok-x.x ∷ [],
      pushed ∙ ap (λ (a : Arguments). with_argument a c.in_ok-x.x) i.1 ∙ sym (together_more i.0 c.in_ok-x.x),
      sym (turn is_end (argument_at c.args.given) i.0 c.loop-most.most c.loop-most.rest.now c.in_ok-x.x c.in_ok-x.after.now c.loop-most-test.true (sym c.is_end.ensures ∙ c.if-is_end.false) c.in_ok-x.ensures) ∙ i.2,
    )
