use Rattle.std.proofs.Common.{rules, ◌≡◌, length}
use Rattle.std.proofs.lemmas.List.{nil_from_length}
use Rattle.rhd_machine.proofs.Stack.{cut_goes, cut_ends}
use Rattle.rhd_machine.proofs.run.cut_all.Goals as goal

pub loop-frame-preserved : goal.loop-frame-preserved
loop-frame-preserved g c = λ modules base call before after h.
    let p = rw c.in-Some.ensures.items at (c.loop-frame.invariant modules base call before after h) in
    cut_goes _ _ c.pop.new.self.items c.in-Some.frame base call before after c.loop-frame.node c.in_ok-node.node (rw c.waiting.ensures at c.in_ok-node.ensures) p

pub returns : goal.returns
returns g c = λ modules base call before after h.
    let z : length c.loop-frame.stack.items ≡ 0 = search rules in
    cut_ends _ _ c.loop-frame.stack.items base call before after c.loop-frame.node (nil_from_length _ z) (c.loop-frame.invariant modules base call before after h)
