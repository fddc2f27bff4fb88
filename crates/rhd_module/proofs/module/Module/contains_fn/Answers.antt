use Rattle.std.proofs.Common.{◌||◌, is_some, sym, ap, ◌∙◌}
use Rattle.std.specs.Map.{lookup}
use Rattle.rhd_hash.specs.Keys.{key_eq}
use Rattle.rhd_manifest.specs.Rank.{find_entry}
use Rattle.rhd_module.specs.Tree.{ModuleTree}
use Rattle.rhd_module.specs.Shown.{own_decl}
use Rattle.rhd_module.proofs.Listed.{shown_some, copied_some}
use Rattle.rhd_module.proofs.module.Module.contains_fn.Goals as goal

pub returns-then-is_some : goal.returns-then-is_some
unfolding own_decl
returns-then-is_some c =
    let m = c.args.self.now in
    let key = c.args.key.now in
    let eager = ap (λ (m : ModuleTree). is_some (lookup (key_eq key) m.own.eager)) (sym c.self.view_is) ∙ ap is_some (sym c.get.ensures) ∙ copied_some c.get.result ∙ sym c.is_some.ensures in
    c.if-is_some.true ∙ sym (shown_some m.own.seeds m.own.eager m.own.listed key ∙ ap (λ b. b || is_some (find_entry key m.own.listed)) (eager ∙ c.if-is_some.true))

pub returns-else-is_some : goal.returns-else-is_some
unfolding own_decl
returns-else-is_some c =
    let m = c.args.self.now in
    let key = c.args.key.now in
    let eager = ap (λ (m : ModuleTree). is_some (lookup (key_eq key) m.own.eager)) (sym c.self.view_is) ∙ ap is_some (sym c.get.ensures) ∙ copied_some c.get.result ∙ sym c.is_some.ensures in
    let listed = ap (λ (m : ModuleTree). is_some (find_entry key m.own.listed)) (sym c.self.view_is) ∙ ap is_some (sym c.find.ensures) ∙ copied_some c.find.result ∙ sym c.is_some-else-is_some.ensures in
    sym (shown_some m.own.seeds m.own.eager m.own.listed key ∙ (λ i. (eager ∙ c.if-is_some.false) i || listed i))
