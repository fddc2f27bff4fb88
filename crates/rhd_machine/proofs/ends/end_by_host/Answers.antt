use Rattle.std.proofs.lemmas.Result.{on_ok_weaker}
use Rattle.rhd_machine.proofs.HostEnds.{nothing_ends, value_ends, fault_ends}
use Rattle.rhd_machine.proofs.ends.end_by_host.Goals as goal

pub returns-in_ok-fault-in-Nothing : goal.returns-in_ok-fault-in-Nothing
returns-in_ok-fault-in-Nothing g c = on_ok_weaker c.fail.result (λ e. nothing_ends _ c.args.node.now c.fail.new.node c.args.answer c.in_ok-fault-in-Nothing.fault c.in-Nothing.is c.in_ok-fault-in-Nothing.ensures e) c.fail.ensures

pub returns-in_ok-first-in-Value : goal.returns-in_ok-first-in-Value
returns-in_ok-first-in-Value g c = on_ok_weaker c.accept.result (λ e. value_ends _ c.args.node.now c.accept.new.node c.args.answer c.in-Value.value c.in_ok-first-in-Value.first c.in-Value.is c.in_ok-first-in-Value.ensures e) c.accept.ensures

pub returns-in_ok-first-in-Fault : goal.returns-in_ok-first-in-Fault
returns-in_ok-first-in-Fault g c = on_ok_weaker c.answer_with.result (λ e. fault_ends _ c.args.node.now c.answer_with.new.node c.args.answer c.in-Fault.fault c.in_ok-first-in-Fault.first c.in-Fault.is c.in_ok-first-in-Fault.ensures e) c.answer_with.ensures
