use Rattle.std.proofs.Common.{ap, refl, ◌∙◌}
use Rattle.rhd_call.specs.Seen.{Seen}
use Rattle.rhd_machine.specs.Filling.{picking}
use Rattle.rhd_machine.proofs.Stack.{settled_done, settled_failed, settled_ask}
use Rattle.rhd_machine.proofs.machine.settle.Goals as goal

pub returns-in_ok-finish-in-Done : goal.returns-in_ok-finish-in-Done
returns-in_ok-finish-in-Done g c = λ k o q.
    settled_done _ k c.args.node.now c.picks.new.node c.args.pick c.args.step c.in-Done.answer c.in-Done.first _ o q c.in-Done.is refl (c.picks.ensures ∙ ap (λ (x : Seen). picking x c.args.pick) c.in_ok-finish-in-Done.ensures)

pub returns-in_ok-hand_on-in-Failed : goal.returns-in_ok-hand_on-in-Failed
returns-in_ok-hand_on-in-Failed g c = λ k o q.
    settled_failed _ k c.args.node.now c.picks-in-Failed.new.node c.args.pick c.args.step c.in-Failed.fault c.in-Failed.first _ o q c.in-Failed.is refl (c.picks-in-Failed.ensures ∙ ap (λ (x : Seen). picking x c.args.pick) c.in_ok-hand_on-in-Failed.ensures)

pub returns-in_ok-ask_for-in-Ask : goal.returns-in_ok-ask_for-in-Ask
returns-in_ok-ask_for-in-Ask g c = λ k o q. settled_ask _ k c.args.node.now c.args.pick c.args.step c.in-Ask.request c.in-Ask.carry c.in_ok-ask_for-in-Ask.field-0 o q c.in-Ask.is c.in_ok-ask_for-in-Ask.ensures
