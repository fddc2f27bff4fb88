use Rattle.std.proofs.Common.{[], refl, ◌∙◌}
use Rattle.rhd_module.specs.Contents.{with_type}
use Rattle.rhd_engine.specs.Of.{lists_of}
use Rattle.rhd_layers.specs.FirstModule.{in_first}
use Rattle.rhd_session.specs.Of.{world_of, frame_of}
use Rattle.rhd_session.proofs.GlobalChanges.{type_goes, globals_left}
use Rattle.rhd_session.proofs.session_core.SessionCore.register_type.Goals as goal

pub returns-in-Ok-set_type_in_first-clause-goes : goal.returns-in-Ok-set_type_in_first-clause-goes
unfolding lists_of
returns-in-Ok-set_type_in_first-clause-goes g c =
    let w = world_of (λ z. (goal.PluginFunc-dyn g z).info z.1) c.args.self.now in
    type_goes w _ (frame_of c.args.self.now) c.args.kind c.args.display c.set_type_in_first.new.self (c.in-Ok-set_type_in_first.ensures.ok ∙ (λ i. in_first (with_type (c.in-Ok.ensures i) c.args.display []) c.args.self.now.engine.globals)) refl

pub returns-in-Err-clause-goes : goal.returns-in-Err-clause-goes
unfolding lists_of
returns-in-Err-clause-goes g c = (globals_left (world_of (λ z. (goal.PluginFunc-dyn g z).info z.1) c.args.self.now) c.set_type_in_first.new.self c.in-Err.ensures.err, refl)
