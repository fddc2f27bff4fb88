use Rattle.std.proofs.Common.{length, refl}
use Rattle.rhd_engine.specs.Of.{lists_of}
use Rattle.rhd_engine.proofs.HeldStatics.{places_held}
use Rattle.rhd_engine.proofs.engine.Engine.register_static_module.Goals as goal

pub invariant_of-self : goal.invariant_of-self
invariant_of-self g c =
    let engine = c.args.self.now in
    let held = places_held (length engine.natives.items.items) c.seeds-seeds.result c.args.name c.args.added engine.statics c.register_static.new.self c.register_static.result c.register_static.ensures c.requires engine.statics_held in
    record { manifests_held = engine.manifests_held; globals_held = engine.globals_held; statics_held = held; has_namespace = engine.has_namespace; builtins_held = engine.builtins_held; limited = engine.limited }

pub returns-clause-kept : goal.returns-clause-kept
unfolding lists_of
returns-clause-kept g c = refl
