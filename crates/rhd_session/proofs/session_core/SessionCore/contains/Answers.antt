use Rattle.std.proofs.Common.{◌≡◌, length, refl, sym, ap, ◌∙◌, rules}
use Rattle.std.specs.Prelude.{option_map, is_some}
use Rattle.rhd_module.specs.Tree.{ModuleTree}
use Rattle.rhd_module.specs.Shown.{own_decl}
use Rattle.rhd_call.specs.declared.reply.Reply.TheVariants.{Truth}
use Rattle.rhd_call.specs.declared.command.Command.TheVariants as commands
use Rattle.rhd_session.specs.Commands.{answering}
use Rattle.rhd_session.specs.Of.{world_of, frame_of}
use Rattle.rhd_session.proofs.Declared.{told_refused, refused_first, asked_goes, past_all}
use Rattle.rhd_session.proofs.session_core.SessionCore.contains.Goals as goal

pub returns-in-Some : goal.returns-in-Some
returns-in-Some g c =
    let w = world_of (λ z. (goal.PluginFunc-dyn g z).info z.1) c.args.self.now in
    let f = frame_of c.args.self.now in
    let m = c.in-Some.asked.now in
    let there = sym c.in-Some.ensures in
    asked_goes w f (commands.Contains c.args.id c.args.key.now) c.args.id m _ (Truth (is_some (own_decl m c.args.key.now))) refl refl refl there (ap (option_map (λ (asked : ModuleTree). answering w f (Truth (is_some (own_decl asked c.args.key.now))))) there) (ap Truth (c.contains_fn.ensures ∙ ap (λ (x : ModuleTree). is_some (own_decl x c.args.key.now)) c.module.ensures))

pub returns-in-None : goal.returns-in-None
returns-in-None g c =
    let n : c.len.result ≡ length c.args.self.now.modules.items = search rules in
    told_refused _ _ (commands.Contains c.args.id c.args.key.now) c.unknown.result _ _ c.unknown.ensures (refused_first _ _ (commands.Contains c.args.id c.args.key.now) c.args.id.0 (length c.args.self.now.modules.items) _ _ _ refl refl n (past_all c.args.self.now.modules.items c.args.id.0 (sym c.in-None.ensures)))
