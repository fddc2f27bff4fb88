use Rattle.std.proofs.Common.{refl, arith}
use Rattle.rhd_func.specs.Infos.{infos_of}
use Rattle.rhd_engine.specs.Of.{lists_of}
use Rattle.rhd_engine.proofs.HeldLaws.{registers_by_table, registers_first_count}
use Rattle.rhd_engine.proofs.engine.Engine.register.Goals as goal

pub invariant_of-self : goal.invariant_of-self
invariant_of-self g c =
    let engine = c.args.self.now in
    let is = c.register_in_first.ensures in
    let count = registers_first_count (infos_of (λ z. (goal.PluginFunc-dyn g z).info z.1) engine.natives) c.args.reg c.args.id engine.globals c.register_in_first.new.self c.register_in_first.result is in
    let held = registers_by_table (λ z. (goal.PluginFunc-dyn g z).info z.1) engine.natives c.args.reg c.args.id engine.globals c.register_in_first.new.self c.register_in_first.result is engine.globals_held in
    record { manifests_held = engine.manifests_held; globals_held = held; statics_held = engine.statics_held; has_namespace = omega (arith, count, engine.has_namespace); builtins_held = engine.builtins_held; limited = engine.limited }

pub returns-clause-kept : goal.returns-clause-kept
unfolding lists_of
returns-clause-kept g c = refl
