use Rattle.std.proofs.Common.{◌≡◌, ◌≤◌, ◌<◌, length, refl, rules, arith, ap, List, ◌∙◌}
use Rattle.rhd_module.specs.Tree.{ModuleTree}
use Rattle.rhd_call.specs.declared.command.Command.TheVariants as commands
use Rattle.rhd_session.specs.Of.{world_of, frame_of}
use Rattle.rhd_engine.specs.Of.{lists_of}
use Rattle.rhd_layers.specs.Lists.{second}
use Rattle.rhd_session.proofs.Declared.{goes_refused, refused_first, global_goes, at_place}
use Rattle.rhd_session.proofs.GlobalChanges.{globals_left}
use Rattle.rhd_session.proofs.session_core.SessionCore.global_module.Goals as goal

pub returns-then-at-len-clause-goes : goal.returns-then-at-len-clause-goes
returns-then-at-len-clause-goes g c =
    let n : c.len-then-at-len.result ≡ length c.args.self.now.modules.items = search rules in
    let m : c.len.result ≡ length c.args.self.now.modules.items = search rules in
    let past : length c.args.self.now.modules.items ≤ c.args.id.0 = omega (arith, m, c.if-at-len.true) in
    goes_refused _ _ (commands.GlobalModule c.args.id) c.unknown.result _ _ c.unknown.ensures (refused_first _ _ (commands.GlobalModule c.args.id) c.args.id.0 (length c.args.self.now.modules.items) _ _ _ refl refl n past)

pub returns-in-Ok-insert_second-clause-goes : goal.returns-in-Ok-insert_second-clause-goes
unfolding lists_of
returns-in-Ok-insert_second-clause-goes g c =
    let w = world_of (λ z. (goal.PluginFunc-dyn g z).info z.1) c.args.self.now in
    let m : c.len.result ≡ length c.args.self.now.modules.items = search rules in
    let h : c.args.id.0 < length c.args.self.now.modules.items = omega (arith, m, c.if-at-len.false) in
    let there = at_place c.args.self.now.modules.items c.args.id.0 c.index.result.now h c.index.ensures in
    let is : c.insert_second.new.self ≡ second c.index.result.now c.args.self.now.engine.globals = c.in-Ok-insert_second.ensures.ok ∙ (λ i. second (c.in-Ok.ensures i) c.args.self.now.engine.globals) in
    global_goes w _ (frame_of c.args.self.now) c.args.id c.index.result.now there (ap (λ (ms : List ModuleTree). record w { engine = record w.engine { globals = ms } }) is)

pub returns-in-Err-clause-goes : goal.returns-in-Err-clause-goes
unfolding lists_of
returns-in-Err-clause-goes g c = (globals_left (world_of (λ z. (goal.PluginFunc-dyn g z).info z.1) c.args.self.now) c.insert_second.new.self c.in-Err.ensures.err, refl)
