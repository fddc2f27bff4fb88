use Rattle.std.proofs.Common.{sym, ap, ◌∙◌}
use Rattle.std.specs.Option.{option_copied}
use Rattle.rhd_func.specs.Infos.{infos_of}
use Rattle.rhd_dispatch.proofs.Tables.{says_known, says_unknown}
use Rattle.rhd_dispatch.proofs.operators.native_has_context.Goals as goal

pub returns-in-Some : goal.returns-in-Some
unfolding infos_of
returns-in-Some g c = says_known _ c.args.natives.now.items.items c.args.id c.in-Some.native.now (λ n. n.has_context) _ (sym c.in-Some.ensures) c.takes_context.ensures

pub returns-in-None : goal.returns-in-None
unfolding infos_of
returns-in-None g c = says_unknown _ c.args.natives.now.items.items c.args.id (λ n. n.has_context) (sym c.get.ensures ∙ ap option_copied c.in-None.is)
