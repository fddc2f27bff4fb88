use Rattle.std.proofs.Common.{◌≡◌, ◌≤◌, ◌<◌, length, refl, rules, arith, subst}
use Rattle.rhd_hash.specs.declared.mixer.Seeds.{Seeds}
use Rattle.rhd_module.specs.Tree.{ModuleTree}
use Rattle.rhd_call.specs.declared.command.Command.TheVariants as commands
use Rattle.rhd_session.specs.Of.{world_of, frame_of}
use Rattle.rhd_engine.specs.Of.{lists_of}
use Rattle.rhd_layers.specs.Statics.{Places}
use Rattle.rhd_engine.proofs.HeldLaws.{all_at}
use Rattle.rhd_engine.proofs.HeldStatics.{places_held}
use Rattle.rhd_session.proofs.Declared.{goes_refused, refused_first, static_goes, at_place}
use Rattle.rhd_session.proofs.session_core.SessionCore.static_module.Goals as goal

pub returns-then-at-len-clause-goes : goal.returns-then-at-len-clause-goes
returns-then-at-len-clause-goes g c =
    let n : c.len-then-at-len.result ≡ length c.args.self.now.modules.items = search rules in
    let m : c.len.result ≡ length c.args.self.now.modules.items = search rules in
    let past : length c.args.self.now.modules.items ≤ c.args.id.0 = omega (arith, m, c.if-at-len.true) in
    goes_refused _ _ (commands.StaticModule c.args.name c.args.id) c.unknown.result _ _ c.unknown.ensures (refused_first _ _ (commands.StaticModule c.args.name c.args.id) c.args.id.0 (length c.args.self.now.modules.items) _ _ _ refl refl n past)

pub invariant_of-engine : goal.invariant_of-engine
invariant_of-engine g c =
    let m : c.len.result ≡ length c.args.self.now.modules.items = search rules in
    let h : c.args.id.0 < length c.args.self.now.modules.items = omega (arith, m, c.if-at-len.false) in
    let there = at_place c.args.self.now.modules.items c.args.id.0 c.index.result.now h c.index.ensures in
    let engine = c.args.self.now.engine in
    let added = all_at _ c.args.self.now.modules.items c.args.id.0 c.index.result.now c.args.self.now.modules_held there in
    let is = subst (λ (m : ModuleTree). Places c.seeds-seeds.result c.args.name m engine.statics c.register_static.result c.register_static.new.self) (c.in-Ok.ensures) c.register_static.ensures in
    let held = places_held _ c.seeds-seeds.result c.args.name c.index.result.now engine.statics c.register_static.new.self c.register_static.result is added engine.statics_held in
    record { manifests_held = engine.manifests_held; globals_held = engine.globals_held; has_namespace = engine.has_namespace; statics_held = held; builtins_held = engine.builtins_held; limited = engine.limited }

pub returns-clause-goes : goal.returns-clause-goes
unfolding lists_of
returns-clause-goes g c =
    let w = world_of (λ z. (goal.PluginFunc-dyn g z).info z.1) c.args.self.now in
    let m : c.len.result ≡ length c.args.self.now.modules.items = search rules in
    let h : c.args.id.0 < length c.args.self.now.modules.items = omega (arith, m, c.if-at-len.false) in
    let there = at_place c.args.self.now.modules.items c.args.id.0 c.index.result.now h c.index.ensures in
    let engine = c.args.self.now.engine in
    let is = subst (λ (m : ModuleTree). Places c.seeds-seeds.result c.args.name m engine.statics c.register_static.result c.register_static.new.self) (c.in-Ok.ensures) c.register_static.ensures in
    static_goes w (frame_of c.args.self.now) c.args.name c.args.id c.index.result.now c.register_static.new.self c.register_static.result there
    (subst (λ (seeds : Seeds). Places seeds c.args.name c.index.result.now engine.statics c.register_static.result c.register_static.new.self) c.seeds-seeds.ensures is)
