use Rattle.rhd_machine.proofs.Stepped.{resumed_of, resumes_in}
use Rattle.rhd_machine.proofs.calls.answered_step.Goals as goal

pub returns : goal.returns
returns g c = λ begun host. resumed_of _ _ c.go_on.result _ _ c.in_ok-carry.carry c.args.suspended.now.carry c.in_ok-done.done _ _ _ c.in_ok-carry.ensures c.in_ok-done.ensures
    (resumes_in _ _ c.go_on.result c.args.suspended.now.pick.func c.in_ok-ctx.ctx _ c.in_ok-carry.carry c.in_ok-done.done _ _ (rw c.node.ensures at c.in_ok-ctx.ensures) (c.go_on.ensures begun host))
