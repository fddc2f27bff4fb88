use Rattle.std.proofs.Common.{rules, ◌≡◌, ap, ℕ}
use Rattle.std.specs.Prelude.{None}
use Rattle.rhd_session.specs.Answered.{declared, by_path}
use Rattle.rhd_session.specs.Commands.{call_of}
use Rattle.rhd_machine.specs.World.{moment}
use Rattle.rhd_session.proofs.Lists.{begins_none, applied_replied, declares_begins}
use Rattle.rhd_session.proofs.session.Session.perform.Goals as goal

pub returns-in_ok-declare-in_default-clause-replied : goal.returns-in_ok-declare-in_default-clause-replied
returns-in_ok-declare-in_default-clause-replied g c =
    let no : call_of c.args.command ≡ None = search rules in
    let made = c.in_ok-declare-in_default.ensures.applied in (
      made.0,
      search rules,
      applied_replied _ _ _ _ _ c.args.command _ no (declared made.2) (ap (λ (n : ℕ). moment n c.args.host.now c.args.bodies.now) c.in_ok-declare-in_default.ensures.begun),
    )

pub returns-in_ok-declare-in_default-clause-begins : goal.returns-in_ok-declare-in_default-clause-begins
returns-in_ok-declare-in_default-clause-begins g c =
    let no : call_of c.args.command ≡ None = search rules in
    declares_begins c.args.command _ _ no c.in_ok-declare-in_default.ensures.begun

pub returns-in_err-reserve-clause-begins : goal.returns-in_err-reserve-clause-begins
returns-in_err-reserve-clause-begins g c = begins_none c.args.command c.args.self.now.core.begun

pub returns-in_ok-push_imported-in-ImportPath-clause-replied : goal.returns-in_ok-push_imported-in-ImportPath-clause-replied
returns-in_ok-push_imported-in-ImportPath-clause-replied g c =
    let made = c.in_ok-push_imported-in-ImportPath.ensures.imports in (
      made.0,
      search rules,
      rw c.in-ImportPath.is (by_path made.2, ap (λ (n : ℕ). moment n c.args.host.now c.args.bodies.now) c.in_ok-push_imported-in-ImportPath.ensures.begun),
    )
