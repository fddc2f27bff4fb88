use Rattle.std.proofs.Common.{◌≡◌, ◌≤◌, length, refl, sym, rules, arith, ap, subst, ◌∙◌}
use Rattle.std.specs.Prelude.{Ok, Err}
use Rattle.rhd_hash.specs.declared.mixer.Seeds.{Seeds}
use Rattle.rhd_module.specs.Made.{Makes}
use Rattle.rhd_module.specs.Tree.{ModuleTree}
use Rattle.rhd_call.specs.declared.command.Command.TheVariants as commands
use Rattle.rhd_engine.specs.Held.{names_held}
use Rattle.rhd_engine.specs.Of.{lists_of}
use Rattle.rhd_engine.proofs.HeldManifests.{made_held}
use Rattle.rhd_session.specs.Changing.{MadeFor}
use Rattle.rhd_session.specs.Of.{world_of, frame_of}
use Rattle.rhd_session.proofs.ManifestChanges.{from_unheld, from_made, from_refused}
use Rattle.rhd_session.proofs.session_core.SessionCore.module_of.Goals as goal

pub returns-then-at-len-clause-refused : goal.returns-then-at-len-clause-refused
unfolding lists_of
returns-then-at-len-clause-refused g c =
    let table = c.args.self.now.engine.manifests in
    let n : c.len-then-at-len.result ≡ length table = search rules in
    let k : c.len.result ≡ length table = search rules in
    let past : length table ≤ c.args.id.0 = omega (arith, k, c.if-at-len.true) in
    from_unheld _ _ c.args.id c.unknown.result _ _ c.unknown.ensures refl n past

pub returns-in_ok-new-in-Ok-clause-made : goal.returns-in_ok-new-in-Ok-clause-made
unfolding lists_of
returns-in_ok-new-in-Ok-clause-made g c =
    let w = world_of (λ z. (goal.PluginFunc-dyn g z).info z.1) c.args.self.now in
    let f = frame_of c.args.self.now in
    let k : c.len.result ≡ length c.args.self.now.engine.manifests = search rules in
    let makes = subst (λ (s : Seeds). Makes s c.args.self.now.engine.manifests c.args.id (Ok c.in-Ok.made)) c.seeds.ensures c.in-Ok.ensures in
    subst (λ (m : ModuleTree). MadeFor w f (commands.FromManifest c.args.id) m) (sym c.in_ok-new-in-Ok.ensures) (from_made w f c.args.id c.in-Ok.made (omega (arith, k, c.if-at-len.false)) makes)

pub returns-in_ok-new-in-Ok-clause-held : goal.returns-in_ok-new-in-Ok-clause-held
returns-in_ok-new-in-Ok-clause-held g c =
    let engine = c.args.self.now.engine in
    ap (names_held (length engine.natives.items.items)) (c.in_ok-new-in-Ok.ensures ∙ c.in-Ok.ensures.2) ∙ made_held _ engine.manifests engine.manifests_held c.seeds.result c.args.id

pub returns-in-Err-clause-refused : goal.returns-in-Err-clause-refused
unfolding lists_of
returns-in-Err-clause-refused g c =
    let k : c.len.result ≡ length c.args.self.now.engine.manifests = search rules in
    let makes = subst (λ (s : Seeds). Makes s c.args.self.now.engine.manifests c.args.id (Err c.in-Err.fault)) c.seeds.ensures c.in-Err.ensures in
    from_refused _ _ c.args.id c.in-Err.fault (omega (arith, k, c.if-at-len.false)) makes
