use Rattle.std.proofs.Common.{◌≡◌, length, refl, rules}
use Rattle.rhd_engine.specs.Of.{lists_of}
use Rattle.rhd_session.proofs.Declared.{made_goes}
use Rattle.rhd_session.proofs.session_core.SessionCore.new_module.Goals as goal

pub returns-clause-applied : goal.returns-clause-applied
unfolding lists_of
returns-clause-applied g c =
    let n : c.len.result ≡ length c.args.self.now.modules.items = search rules in
    made_goes _ _ _ _ n (rw (c.in_ok-push.ensures.items, c.in_ok-made.ensures, c.in_ok-new.ensures, c.seeds-seeds.ensures) refl)
