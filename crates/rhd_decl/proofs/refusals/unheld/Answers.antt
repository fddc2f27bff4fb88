use Rattle.std.proofs.Common.{◌<◌, ◌≤◌, length, ap, ◌∙◌, arith}
use Rattle.std.specs.Prelude.{Some}
use Rattle.std.proofs.lemmas.Bool.Decides.{nat_tests}
use Rattle.rhd_func.specs.Infos.{infos_of}
use Rattle.rhd_decl.proofs.Numbers.{unheld_none, unheld_some}
use Rattle.rhd_decl.proofs.refusals.unheld.Goals as goal

pub returns-then-id-len : goal.returns-then-id-len
unfolding infos_of
returns-then-id-len g c =
    let h : c.args.id.0 < length c.args.natives.now.items.items = grind (arith, nat_tests, c.if-id-len.true, c.len.ensures) in
    unheld_none _ c.args.natives.now.items.items c.args.id h

pub returns-else-id-len : goal.returns-else-id-len
unfolding infos_of
returns-else-id-len g c =
    let h : length c.args.natives.now.items.items ≤ c.args.id.0 = grind (arith, nat_tests, c.if-id-len.false, c.len.ensures) in
    ap Some c.unknown.ensures ∙ unheld_some _ c.args.natives.now.items.items c.args.id h
