use Rattle.std.proofs.Common.{ap, sym, ◌∙◌}
use Rattle.rhd_machine.specs.declared.machine.Asking.{Asking}
use Rattle.rhd_machine.specs.declared.machine.Outcome.TheVariants.{Waiting}
use Rattle.rhd_machine.specs.Waits.{outcome_of}
use Rattle.rhd_machine.proofs.machine.outcome_of.Goals as goal

pub returns-in-Some : goal.returns-in-Some
returns-in-Some c =
    ap (λ (a : Asking). Waiting (record { node = c.args.node; pick = a.pick; carry = a.carry }) a.request) c.into_inner-pick.ensures ∙ ap (outcome_of c.args.node) (sym c.in-Some.is)

pub returns-in-None : goal.returns-in-None
returns-in-None c = ap (outcome_of c.args.node) (sym c.in-None.is)
