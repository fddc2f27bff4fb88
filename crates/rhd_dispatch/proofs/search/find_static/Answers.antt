use Rattle.std.proofs.Common.{◌+◌, ap}
use Rattle.std.specs.List.{enumerate_from}
use Rattle.rhd_engine.specs.Engine.{Imports}
use Rattle.rhd_call.specs.declared.pick.Layer.TheVariants.{Static}
use Rattle.rhd_dispatch.specs.Walks.{in_tree, numbered}
use Rattle.rhd_dispatch.proofs.Passes.{hit_steps, end_steps, in_numbered}
use Rattle.rhd_dispatch.proofs.search.find_static.Goals as goal

pub returns-then-is_some-clause-steps : goal.returns-then-is_some-clause-steps
returns-then-is_some-clause-steps c =
    in_numbered c.args.statics.now _ _
    (hit_steps (in_tree Static c.args.key.now) (numbered c.args.statics.now) _ (enumerate_from c.loop-name.number c.loop-name._name-iterator) (enumerate_from (c.loop-name.number + 1) c.next.new.self) (c.loop-name.number, (c.in-Some._name.now, c.in-Some.marked.now)) _ _ c.loop-name.invariant.2
    (ap (λ (es : Imports). enumerate_from c.loop-name.number es) c.in-Some.ensures.steps) c.look_marked-found.ensures.steps)

pub returns-clause-steps : goal.returns-clause-steps
returns-clause-steps c = in_numbered c.args.statics.now _ _ (end_steps (in_tree Static c.args.key.now) (numbered c.args.statics.now) _ (enumerate_from c.loop-name.number c.loop-name._name-iterator) _ c.loop-name.invariant.2)
