use Rattle.rhd_layers.proofs.Marked.{joined_covers, joined_told}
use Rattle.rhd_layers.proofs.marks.join_own.Goals as goal

pub returns-in-Some-clause-kept : goal.returns-in-Some-clause-kept
returns-in-Some-clause-kept c = joined_told 128 c.args.keys.now c.in-Some.marks.now c.add_assign.new.self c.add_assign.ensures.after

pub returns-in-Some-clause-covers : goal.returns-in-Some-clause-covers
returns-in-Some-clause-covers c = λ none. joined_covers 128 c.args.keys.now c.in-Some.marks.now c.add_assign.new.self c.args.module.now.own.seeds _ c.add_assign.ensures.after c.in-Some.ensures.covers
