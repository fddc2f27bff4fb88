use Rattle.std.proofs.Common.{refl}
use Rattle.rhd_engine.specs.Of.{lists_of}
use Rattle.rhd_engine.proofs.HeldLaws.{all_at, all_set}
use Rattle.rhd_session.specs.Of.{world_of, frame_of}
use Rattle.rhd_session.proofs.Declared.{at_place}
use Rattle.rhd_session.proofs.ModuleChanges.{held_by_table, module_goes}
use Rattle.rhd_session.proofs.session_core.SessionCore.change_held.Goals as goal

pub invariant_of-self-clause-modules_held : goal.invariant_of-self-clause-modules_held
invariant_of-self-clause-modules_held g c =
    let there = at_place c.args.self.now.modules.items c.args.id.0 c.index_mut-changed.result.now c.requires.held c.index_mut-changed.ensures.value in
    let held = all_at _ c.args.self.now.modules.items c.args.id.0 c.index_mut-changed.result.now c.args.self.now.modules_held there in
    all_set _ c.args.self.now.modules.items c.args.id.0 c.change.new.changed c.args.self.now.modules_held
    (held_by_table (λ z. (goal.PluginFunc-dyn g z).info z.1) c.args.self.now.engine.natives c.args.self.now.engine.manifests c.args.command c.index_mut-changed.result.now c.change.new.changed c.change.result c.change.ensures c.args.self.now.engine.manifests_held held)

pub returns-clause-goes : goal.returns-clause-goes
unfolding lists_of
returns-clause-goes g c =
    let there = at_place c.args.self.now.modules.items c.args.id.0 c.index_mut-changed.result.now c.requires.held c.index_mut-changed.ensures.value in
    module_goes (world_of (λ z. (goal.PluginFunc-dyn g z).info z.1) c.args.self.now) _ (frame_of c.args.self.now) c.args.command c.args.id c.index_mut-changed.result.now c.change.new.changed c.change.result c.requires.changes c.requires.plain there refl c.change.ensures
