use Rattle.std.proofs.Common.{◌≡◌, Bor, ◌||◌, refl, sym, ap, ◌∙◌}
use Rattle.std.specs.Prelude.{Option, None, Some, is_some}
use Rattle.std.specs.Option.{option_copied, option_map}
use Rattle.rhd_engine.specs.Of.{lists_of}
use Rattle.rhd_dispatch.specs.Searched.{Place}
use Rattle.rhd_dispatch.specs.Walks.{rooted}
use Rattle.rhd_dispatch.proofs.Passes.{map_some, map_none}
use Rattle.rhd_dispatch.proofs.Roots.{import_is_root, some_named}
use Rattle.rhd_dispatch.proofs.root.has_named.Goals as goal

copied : {X : Type 0} (o : Option (Bor X)) → is_some (option_copied o) ≡ is_some o
copied None = refl
copied (Some x) = refl

pub returns-then-is_some : goal.returns-then-is_some
unfolding lists_of
returns-then-is_some g c =
    let some = map_some (λ r. rooted r.layer r.place.now) c.import_root.result _ c.is_some.ensures c.if-is_some.true in
    c.if-is_some.true ∙ sym some ∙ ap is_some (import_is_root (lists_of (λ z. (goal.PluginFunc-dyn g z).info z.1) c.args.engine.now) c.args.state.now.imports _ c.args.name.now _ c.as_slice.ensures.items c.import_root.ensures some)

pub returns-else-is_some : goal.returns-else-is_some
unfolding lists_of
returns-else-is_some g c =
    let none = map_none (λ r. rooted r.layer r.place.now) c.import_root.result _ c.is_some.ensures c.if-is_some.false in
    c.is_some-else-is_some.ensures ∙ sym (copied c.get.result) ∙ ap (λ (o : Option Place). is_some o || is_some (option_copied c.get.result)) (sym none)
    ∙ sym (some_named (lists_of (λ z. (goal.PluginFunc-dyn g z).info z.1) c.args.engine.now) c.args.state.now.imports _ _ c.args.name.now _ _ c.as_slice.ensures.items c.static_modules.ensures c.import_root.ensures c.get.ensures)
