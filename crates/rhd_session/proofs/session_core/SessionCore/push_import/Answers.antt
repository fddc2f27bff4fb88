use Rattle.std.proofs.Common.{◌≡◌, ◌≤◌, ◌<◌, length, refl, rules, arith, subst}
use Rattle.std.specs.Prelude.{Ok, Err}
use Rattle.rhd_module.specs.Tree.{ModuleTree}
use Rattle.rhd_module.specs.Index.{Indexes}
use Rattle.rhd_call.specs.declared.command.Command.TheVariants as commands
use Rattle.rhd_session.proofs.Declared.{goes_refused, refused_first, import_goes, import_refused, at_place}
use Rattle.rhd_session.proofs.session_core.SessionCore.push_import.Goals as goal

pub returns-then-at-len-clause-goes : goal.returns-then-at-len-clause-goes
returns-then-at-len-clause-goes g c =
    let n : c.len-then-at-len.result ≡ length c.args.self.now.modules.items = search rules in
    let m : c.len.result ≡ length c.args.self.now.modules.items = search rules in
    let past : length c.args.self.now.modules.items ≤ c.args.id.0 = omega (arith, m, c.if-at-len.true) in
    goes_refused _ _ (commands.PushImport c.args.name c.args.id) c.unknown.result _ _ c.unknown.ensures (refused_first _ _ (commands.PushImport c.args.name c.args.id) c.args.id.0 (length c.args.self.now.modules.items) _ _ _ refl refl n past)

pub returns-in_ok-push-in-Ok-clause-goes : goal.returns-in_ok-push-in-Ok-clause-goes
returns-in_ok-push-in-Ok-clause-goes g c =
    let m : c.len.result ≡ length c.args.self.now.modules.items = search rules in
    let h : c.args.id.0 < length c.args.self.now.modules.items = omega (arith, m, c.if-at-len.false) in
    let there = at_place c.args.self.now.modules.items c.args.id.0 c.index.result.now h c.index.ensures in
    import_goes _ _ _ c.args.name c.args.id c.index.result.now c.build_index.new.self there (subst (λ (m : ModuleTree). Indexes {A = Unit {0}} m (Ok tt) c.build_index.new.self) c.in_ok-added.ensures c.in-Ok.ensures) (rw (c.in_ok-push-in-Ok.ensures) refl)

pub returns-in-Err-clause-goes : goal.returns-in-Err-clause-goes
returns-in-Err-clause-goes g c =
    let m : c.len.result ≡ length c.args.self.now.modules.items = search rules in
    let h : c.args.id.0 < length c.args.self.now.modules.items = omega (arith, m, c.if-at-len.false) in
    let there = at_place c.args.self.now.modules.items c.args.id.0 c.index.result.now h c.index.ensures in
    import_refused _ _ c.args.name c.args.id c.index.result.now c.build_index.new.self c.in-Err.fault there (subst (λ (m : ModuleTree). Indexes {A = Unit {0}} m (Err c.in-Err.fault) c.build_index.new.self) c.in_ok-added.ensures c.in-Err.ensures)
