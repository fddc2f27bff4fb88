use Rattle.std.proofs.Common.{◌≡◌, length, refl, rules}
use Rattle.std.specs.Prelude.{Err}
use Rattle.rhd_call.specs.declared.command.Command.TheVariants as commands
use Rattle.rhd_session.specs.Of.{world_of, frame_of}
use Rattle.rhd_session.proofs.Declared.{replied}
use Rattle.rhd_session.proofs.ManifestChanges.{made_replied, last_or_not}
use Rattle.rhd_session.proofs.session_core.SessionCore.from_manifest.Goals as goal

pub invariant_of-self-clause-modules_held : goal.invariant_of-self-clause-modules_held
invariant_of-self-clause-modules_held g c = last_or_not _ _ c.args.self.now.modules.items c.push.new.self.items c.in-Ok.made c.push.ensures.items c.args.self.now.modules_held c.in-Ok.ensures.held

pub returns-in_ok-push-in-Ok-clause-applied : goal.returns-in_ok-push-in-Ok-clause-applied
returns-in_ok-push-in-Ok-clause-applied g c =
    let n : c.len-number.result ≡ length c.args.self.now.modules.items = search rules in
    made_replied _ _ _ c.args.manifest c.in-Ok.made _ c.in-Ok.ensures.made n (rw c.in_ok-push-in-Ok.ensures.items refl)

pub returns-in-Err-clause-applied : goal.returns-in-Err-clause-applied
returns-in-Err-clause-applied g c =
    let w = world_of (λ z. (goal.PluginFunc-dyn g z).info z.1) c.args.self.now in
    let f = frame_of c.args.self.now in
    (replied w w f f (commands.FromManifest c.args.manifest) (Err c.in-Err.fault) c.reply_of.result c.reply_of.ensures c.in-Err.ensures.refused).0
