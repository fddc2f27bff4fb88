use Rattle.std.proofs.Common.{sym, ap, subst, ◌∙◌}
use Rattle.rhd_module.specs.Tree.{ModuleTree}
use Rattle.rhd_table.specs.Indexed.{Indexed}
use Rattle.rhd_module.specs.Index.{IsIndexOf}
use Rattle.rhd_module.proofs.Fills.{is_index}
use Rattle.rhd_module.proofs.module.Module.tree_index.Goals as goal

pub returns-clause-index : goal.returns-clause-index
returns-clause-index c =
    let m = c.args.self.now in
    let new = c.new-index in
    let seeds = new.ensures.seeds ∙ c.seeds.ensures ∙ ap (λ (t : ModuleTree). t.own.seeds) c.self.view_is in
    let is = is_index new.result c.index_into.new.index c.new-path.result m seeds new.ensures.pairs new.ensures.marks new.ensures.tells c.new-path.ensures c.in_ok-index_into.ensures.fills in
    subst (λ (i : Indexed). IsIndexOf i m) (sym c.in_ok-new.ensures.ok) is
