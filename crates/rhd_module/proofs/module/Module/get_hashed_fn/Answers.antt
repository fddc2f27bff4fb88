use Rattle.std.proofs.Common.{sym, ap, ◌∙◌}
use Rattle.std.specs.Option.{option_map}
use Rattle.std.specs.Map.{lookup}
use Rattle.rhd_hash.specs.Keys.{key_eq}
use Rattle.rhd_manifest.specs.Entry.{entry_decl}
use Rattle.rhd_manifest.specs.Rank.{find_entry}
use Rattle.rhd_module.specs.Tree.{ModuleTree}
use Rattle.rhd_module.specs.Shown.{own_decl}
use Rattle.rhd_module.proofs.Listed.{func_found, func_past}
use Rattle.rhd_module.proofs.module.Module.get_hashed_fn.Goals as goal

pub returns-in-Some-clause-found : goal.returns-in-Some-clause-found
unfolding own_decl
returns-in-Some-clause-found c =
    let m = c.args.self.now in
    let key = c.args.key.now in
    func_found m.own.seeds m.own.eager m.own.listed key c.in-Some.declaration.now (ap (λ (m : ModuleTree). lookup (key_eq key) m.own.eager) (sym c.self.view_is) ∙ sym c.in-Some.ensures)

pub returns-in-None-clause-found : goal.returns-in-None-clause-found
unfolding own_decl
returns-in-None-clause-found c =
    let m = c.args.self.now in
    let key = c.args.key.now in
    c.get_listed.ensures ∙ ap (λ k. option_map (λ e. (entry_decl m.own.seeds e).func) (find_entry k m.own.listed)) c.key.ensures
    ∙ func_past m.own.seeds m.own.eager m.own.listed key (ap (λ (m : ModuleTree). lookup (key_eq key) m.own.eager) (sym c.self.view_is) ∙ sym c.in-None.ensures)
