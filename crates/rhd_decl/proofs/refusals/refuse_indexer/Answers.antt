use Rattle.std.proofs.Common.{sym}
use Rattle.rhd_func.specs.Infos.{infos_of}
use Rattle.rhd_decl.proofs.Numbers.{says_itself, says_nothing, held_refuses, none_refused}
use Rattle.rhd_decl.proofs.refusals.refuse_indexer.Goals as goal

pub returns-in-Some : goal.returns-in-Some
unfolding infos_of
returns-in-Some g c =
    let infos = infos_of (λ b. (goal.PluginFunc-dyn g b).info b.1) c.args.natives.now in
    held_refuses infos c.args.id c.args.name.now _ _ (says_itself _ c.args.natives.now.items.items c.args.id.0 c.in-Some.native.now (sym c.in-Some.ensures)) c.refuse_banned.ensures

pub returns-in-None : goal.returns-in-None
unfolding infos_of
returns-in-None g c =
    let infos = infos_of (λ b. (goal.PluginFunc-dyn g b).info b.1) c.args.natives.now in
    none_refused infos c.args.id c.args.name.now (says_nothing _ c.args.natives.now.items.items c.args.id.0 (sym c.in-None.ensures))
