use Rattle.std.proofs.Common.{◌≡◌, length, refl, sym, ap, ◌∙◌, rules, ℕ}
use Rattle.std.specs.Prelude.{option_map}
use Rattle.rhd_module.specs.Tree.{ModuleTree}
use Rattle.rhd_module.specs.Contents.{counts}
use Rattle.rhd_call.specs.declared.reply.Reply.TheVariants.{Count}
use Rattle.rhd_call.specs.declared.command.Command.TheVariants as commands
use Rattle.rhd_session.specs.Commands.{answering, counted}
use Rattle.rhd_session.specs.Of.{world_of, frame_of}
use Rattle.rhd_session.proofs.Declared.{told_refused, refused_first, asked_goes, past_all}
use Rattle.rhd_session.proofs.session_core.SessionCore.count.Goals as goal

pub returns-in-Some : goal.returns-in-Some
returns-in-Some g c =
    let w = world_of (λ z. (goal.PluginFunc-dyn g z).info z.1) c.args.self.now in
    let f = frame_of c.args.self.now in
    let m = c.in-Some.counted.now in
    let there = sym c.in-Some.ensures in
    asked_goes w f (commands.Count c.args.id) c.args.id m _ (counted m) refl refl refl there (ap (option_map (λ (asked : ModuleTree). answering w f (counted asked))) there) (ap (λ (n : ℕ × (ℕ × ℕ)). Count n.0 n.1.0 n.1.1) (c.count-vars.ensures ∙ ap counts c.module.ensures))

pub returns-in-None : goal.returns-in-None
returns-in-None g c =
    let n : c.len.result ≡ length c.args.self.now.modules.items = search rules in
    told_refused _ _ (commands.Count c.args.id) c.unknown.result _ _ c.unknown.ensures (refused_first _ _ (commands.Count c.args.id) c.args.id.0 (length c.args.self.now.modules.items) _ _ _ refl refl n (past_all c.args.self.now.modules.items c.args.id.0 (sym c.in-None.ensures)))
