use Rattle.std.proofs.Common.{◌||◌, is_some, sym, ap, ◌∙◌}
use Rattle.std.specs.Map.{lookup}
use Rattle.rhd_hash.specs.declared.key.Key.{Key}
use Rattle.rhd_hash.specs.Keys.{key_eq}
use Rattle.rhd_manifest.specs.Rank.{find_entry}
use Rattle.rhd_module.specs.Tree.{ModuleTree}
use Rattle.rhd_module.specs.Shown.{own_decl}
use Rattle.rhd_module.proofs.Listed.{shown_some, copied_some}
use Rattle.rhd_module.proofs.module.Module.contains_shared.Goals as goal

pub returns-then-is_some : goal.returns-then-is_some
unfolding own_decl
returns-then-is_some c =
    let m = c.args.self.now in
    let key = c.args.key.now in
    let table = c.self.inside.eager in
    let got = c.get_hashed.ensures ∙ ap (λ (k : Key). lookup (key_eq k) table.pairs) c.hashed.ensures in
    let eager = ap (λ (m : ModuleTree). is_some (lookup (key_eq key) m.own.eager)) (sym c.self.view_is) ∙ ap is_some (sym got) ∙ copied_some c.get_hashed.result ∙ sym c.is_some.ensures in
    c.if-is_some.true ∙ sym (shown_some m.own.seeds m.own.eager m.own.listed key ∙ ap (λ b. b || is_some (find_entry key m.own.listed)) (eager ∙ c.if-is_some.true))

pub returns-else-is_some : goal.returns-else-is_some
unfolding own_decl
returns-else-is_some c =
    let m = c.args.self.now in
    let key = c.args.key.now in
    let table = c.self.inside.eager in
    let entries = c.self.inside.listed in
    let got = c.get_hashed.ensures ∙ ap (λ (k : Key). lookup (key_eq k) table.pairs) c.hashed.ensures in
    let found = c.find.ensures ∙ ap (λ (k : Key). find_entry k entries) c.key.ensures in
    let eager = ap (λ (m : ModuleTree). is_some (lookup (key_eq key) m.own.eager)) (sym c.self.view_is) ∙ ap is_some (sym got) ∙ copied_some c.get_hashed.result ∙ sym c.is_some.ensures in
    let listed = ap (λ (m : ModuleTree). is_some (find_entry key m.own.listed)) (sym c.self.view_is) ∙ ap is_some (sym found) ∙ copied_some c.find.result ∙ sym c.is_some-else-is_some.ensures in
    sym (shown_some m.own.seeds m.own.eager m.own.listed key ∙ (λ i. (eager ∙ c.if-is_some.false) i || listed i))
