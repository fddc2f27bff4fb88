use Rattle.rhd_machine.proofs.Stack.{resumes_with}
use Rattle.rhd_machine.proofs.calls.resume.Goals as goal

pub returns : goal.returns
returns g c = λ modules environs level begun host inner call waited before mid opened runs.
    resumes_with _ _ c.settle_waiting.result opened runs (rw c.node.ensures at (c.in_ok-step.ensures begun host)) (λ k under pick. c.settle_waiting.ensures k under pick)
