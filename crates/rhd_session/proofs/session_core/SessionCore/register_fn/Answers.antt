use Rattle.std.proofs.Common.{refl, arith}
use Rattle.rhd_session.specs.Of.{world_of, frame_of}
use Rattle.rhd_func.specs.Infos.{infos_of}
use Rattle.rhd_engine.specs.Of.{lists_of}
use Rattle.rhd_engine.proofs.HeldLaws.{registers_by_table, registers_first_count}
use Rattle.rhd_session.proofs.GlobalChanges.{fn_goes}
use Rattle.rhd_session.proofs.session_core.SessionCore.register_fn.Goals as goal

pub invariant_of-engine-2 : goal.invariant_of-engine-2
invariant_of-engine-2 g c =
    let engine = c.args.self.now.engine in
    let is = c.register_in_first.ensures in
    let count = registers_first_count (infos_of (λ z. (goal.PluginFunc-dyn g z).info z.1) engine.natives) c.in-Ok.reg c.args.id engine.globals c.register_in_first.new.self c.register_in_first.result is in
    let held = registers_by_table (λ z. (goal.PluginFunc-dyn g z).info z.1) engine.natives c.in-Ok.reg c.args.id engine.globals c.register_in_first.new.self c.register_in_first.result is engine.globals_held in
    record { manifests_held = engine.manifests_held; globals_held = held; has_namespace = omega (arith, count, engine.has_namespace); statics_held = engine.statics_held; builtins_held = engine.builtins_held; limited = engine.limited }

pub invariant_of-engine : goal.invariant_of-engine
invariant_of-engine g c = let engine = c.args.self.now.engine in record { manifests_held = engine.manifests_held; globals_held = engine.globals_held; has_namespace = engine.has_namespace; statics_held = engine.statics_held; builtins_held = engine.builtins_held; limited = engine.limited }

pub returns-in_default-clause-goes : goal.returns-in_default-clause-goes
unfolding lists_of
returns-in_default-clause-goes g c = (refl, refl)

pub returns-clause-goes : goal.returns-clause-goes
unfolding lists_of
returns-clause-goes g c =
    let w = world_of (λ z. (goal.PluginFunc-dyn g z).info z.1) c.args.self.now in
    fn_goes w _ (frame_of c.args.self.now) c.args.name c.args.id c.in-Ok.reg c.register_in_first.new.self c.register_in_first.result c.in-Ok.ensures c.register_in_first.ensures refl
