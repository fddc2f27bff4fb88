use Rattle.std.proofs.Common.{◌≡◌, ◌≤◌, ◌<◌, length, refl, rules, arith}
use Rattle.rhd_call.specs.declared.command.Command.TheVariants as commands
use Rattle.rhd_session.proofs.Declared.{goes_refused, refused_first, push_goes, at_place}
use Rattle.rhd_session.proofs.session_core.SessionCore.push_lib.Goals as goal

pub returns-then-at-len-clause-goes : goal.returns-then-at-len-clause-goes
returns-then-at-len-clause-goes g c =
    let n : c.len-then-at-len.result ≡ length c.args.self.now.modules.items = search rules in
    let m : c.len.result ≡ length c.args.self.now.modules.items = search rules in
    let past : length c.args.self.now.modules.items ≤ c.args.id.0 = omega (arith, m, c.if-at-len.true) in
    goes_refused _ _ (commands.PushLib c.args.id) c.unknown.result _ _ c.unknown.ensures (refused_first _ _ (commands.PushLib c.args.id) c.args.id.0 (length c.args.self.now.modules.items) _ _ _ refl refl n past)

pub returns-clause-goes : goal.returns-clause-goes
returns-clause-goes g c =
    let m : c.len.result ≡ length c.args.self.now.modules.items = search rules in
    let h : c.args.id.0 < length c.args.self.now.modules.items = omega (arith, m, c.if-at-len.false) in
    push_goes _ _ _ c.args.id c.index.result.now (at_place c.args.self.now.modules.items c.args.id.0 c.index.result.now h c.index.ensures) (rw (c.in_ok-push.ensures, c.in_ok-library.ensures) refl)
