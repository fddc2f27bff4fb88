use Rattle.std.proofs.Common.{sym, ap, ◌∙◌}
use Rattle.std.proofs.lemmas.Result.{on_ok_weaker}
use Rattle.rhd_call.specs.Seen.{seen}
use Rattle.rhd_engine.specs.Of.{lists_of}
use Rattle.rhd_machine.specs.Plans.{plan_of}
use Rattle.rhd_machine.specs.Filling.{with_end}
use Rattle.rhd_machine.proofs.Finished.{fit_ends, unfit_ends}
use Rattle.rhd_machine.proofs.ends.finish.Goals as goal

pub returns-in-None : goal.returns-in-None
unfolding lists_of
returns-in-None g c =
    let f = c.in_ok-first.ensures in
    let none = sym (c.in_ok-fault.ensures (plan_of (seen c.args.node.now).call) c.args.back (sym c.position_of-pos.ensures) c.is_qualified-is_qualified.ensures (sym f)) ∙ c.in-None.is in
    on_ok_weaker c.print_and_accept.result
    (λ h. h ∙ ap (with_end (seen c.args.node.now)) (fit_ends (lists_of (λ z. (goal.PluginFunc-dyn g z).info z.1) c.args.engine.now) (plan_of (seen c.args.node.now).call) c.args.pick.now c.args.back c.in_ok-first.first c.args.value c.printer-printer.result c.printers.result f none c.printers.ensures c.printer-printer.ensures))
    c.print_and_accept.ensures

pub returns-in-Some : goal.returns-in-Some
unfolding lists_of
returns-in-Some g c =
    let f = c.in_ok-first.ensures in
    let some = sym (c.in_ok-fault.ensures (plan_of (seen c.args.node.now).call) c.args.back (sym c.position_of-pos.ensures) c.is_qualified-is_qualified.ensures (sym f)) ∙ c.in-Some.is in
    on_ok_weaker c.refuse.result
    (λ h. h ∙ ap (with_end (seen c.args.node.now)) (unfit_ends (lists_of (λ z. (goal.PluginFunc-dyn g z).info z.1) c.args.engine.now) (plan_of (seen c.args.node.now).call) c.args.pick.now c.args.back c.in_ok-first.first c.args.value c.in-Some.fault f some))
    c.refuse.ensures
