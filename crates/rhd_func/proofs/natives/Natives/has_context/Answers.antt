use Rattle.std.proofs.Common.{sym, ◌∙◌}
use Rattle.rhd_func.proofs.Held.{says_held, says_unheld}
use Rattle.rhd_func.proofs.natives.Natives.has_context.Goals as goal

pub returns-in-Some : goal.returns-in-Some
returns-in-Some g c = c.context_of.ensures ∙ sym (says_held _ _ c.args.self.now.items.items c.args.id c.in-Some.native.now (sym c.in-Some.ensures))

pub returns-in-None : goal.returns-in-None
returns-in-None g c = sym (says_unheld _ _ c.args.self.now.items.items c.args.id (sym c.in-None.ensures))
