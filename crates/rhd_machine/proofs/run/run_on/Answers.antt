use Rattle.std.proofs.Common.{ap, ◌∙◌}
use Rattle.rhd_machine.specs.declared.machine.Outer.{Outer}
use Rattle.rhd_machine.specs.Waits.{given_back}
use Rattle.rhd_machine.proofs.Environs.{above_back}
use Rattle.rhd_machine.proofs.run.run_on.Goals as goal

pub returns-clause-state : goal.returns-clause-state
returns-clause-state g c = c.give_back.ensures ∙ ap (λ (x : Outer). given_back x c.run_stack-made.new.state) c.in_ok-base.ensures ∙ above_back c.args.state.now c.run_stack-made.new.state c.run_stack-made.ensures.above
