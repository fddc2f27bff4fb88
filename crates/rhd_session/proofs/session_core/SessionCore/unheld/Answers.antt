use Rattle.std.proofs.Common.{◌≡◌, ◌≤◌, ◌<◌, length, refl, sym, rules, arith}
use Rattle.rhd_engine.specs.Of.{lists_of}
use Rattle.rhd_session.proofs.Declared.{goes_refused}
use Rattle.rhd_session.proofs.ModuleChanges.{iterator_refused, refused_target}
use Rattle.rhd_session.proofs.session_core.SessionCore.unheld.Goals as goal

pub returns-then-at-len-clause-refused : goal.returns-then-at-len-clause-refused
returns-then-at-len-clause-refused g c =
    let n : c.len-then-at-len.result ≡ length c.args.self.now.modules.items = search rules in
    let m : c.len.result ≡ length c.args.self.now.modules.items = search rules in
    let past : length c.args.self.now.modules.items ≤ c.args.id.0 = omega (arith, m, c.if-at-len.true) in
    goes_refused _ _ c.args.command.now c.unknown.result _ _ c.unknown.ensures (refused_target _ _ c.args.command.now c.args.id _ _ c.requires n past refl)

pub returns-in-Some-clause-refused : goal.returns-in-Some-clause-refused
unfolding lists_of
returns-in-Some-clause-refused g c =
    let m : c.len.result ≡ length c.args.self.now.modules.items = search rules in
    let h : c.args.id.0 < length c.args.self.now.modules.items = omega (arith, m, c.if-at-len.false) in
    goes_refused _ _ c.args.command.now c.unknown-in-Some.result _ _ c.unknown-in-Some.ensures (iterator_refused _ _ c.args.command.now c.args.id c.in-Some.iterator c.requires h (sym c.in-Some.ensures) refl)
