use Rattle.std.specs.Prelude.{Some}
use Rattle.rhd_machine.proofs.Filled.{taken_comes}
use Rattle.rhd_machine.proofs.run.fill_on.Goals as goal

pub run_on-requires-clause-comes : goal.run_on-requires-clause-comes
run_on-requires-clause-comes g c =
    let r = c.requires.comes in
    (r.0, r.2, r.3, taken_comes _ _ c.args.state.now c.take_node.result r.1 c.in-Some.node (Some c.args.asking) c.outcome_of-outcome.result r.2 r.3 _ (c.take_node.ensures r.1 r.4) c.in-Some.is (rw c.in_ok-boxed.ensures at c.outcome_of-outcome.ensures) r.5)

pub returns-clause-replied : goal.returns-clause-replied
returns-clause-replied g c = λ modules node call before is step.
    rw (c.show_node.ensures, c.into_node.ensures) (c.in_ok-node.ensures.runs modules call before (taken_comes _ _ c.args.state.now c.take_node.result node c.in-Some.node (Some c.args.asking) c.outcome_of-outcome.result call before _ (c.take_node.ensures node is) c.in-Some.is (rw c.in_ok-boxed.ensures at c.outcome_of-outcome.ensures) step))
