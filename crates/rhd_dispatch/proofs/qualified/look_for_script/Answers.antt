use Rattle.std.proofs.Common.{sym, ap}
use Rattle.std.specs.Prelude.{option_map}
use Rattle.rhd_decl.specs.declared.declaration.Declaration.{Declaration}
use Rattle.rhd_hash.specs.Covers.{HasNoScript}
use Rattle.rhd_dispatch.specs.Searched.{pick_at}
use Rattle.rhd_dispatch.proofs.qualified.look_for_script.Goals as goal

pub returns-then-not-tree_may_have_script-clause-found : goal.returns-then-not-tree_may_have_script-clause-found
unfolding HasNoScript pick_at
returns-then-not-tree_may_have_script-clause-found c =
    let m = c.args.root.place.now in
    sym (ap (option_map (λ (d : Declaration). record { layer = c.args.root.layer; func = d.func; source = m.own.id })) (c.tree_may_have_script.ensures c.if-not-tree_may_have_script.true c.args.key.now c.requires))
