use Rattle.rhd_machine.proofs.filling.unbegun.Goals as goal

pub returns : goal.returns
returns c = c.in_ok-spend.ensures c.args.call c.args.level c.begun-node.ensures
