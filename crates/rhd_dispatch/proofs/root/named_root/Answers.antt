use Rattle.rhd_engine.specs.Of.{lists_of}
use Rattle.rhd_dispatch.specs.Walks.{rooted}
use Rattle.rhd_dispatch.proofs.Passes.{map_some, map_none}
use Rattle.rhd_dispatch.proofs.Roots.{import_is_root, static_is_root}
use Rattle.rhd_dispatch.proofs.root.named_root.Goals as goal

pub returns-then-is_some : goal.returns-then-is_some
unfolding lists_of
returns-then-is_some g c =
    import_is_root (lists_of (λ z. (goal.PluginFunc-dyn g z).info z.1) c.args.engine.now) c.args.state.now.imports _ c.args.name.now _ c.as_slice.ensures.items c.import_root-import.ensures (map_some (λ r. rooted r.layer r.place.now) c.import_root-import.result _ c.is_some.ensures c.if-is_some.true)

pub returns : goal.returns
unfolding lists_of
returns g c =
    static_is_root (lists_of (λ z. (goal.PluginFunc-dyn g z).info z.1) c.args.engine.now) c.args.state.now.imports _ _ c.args.name.now _ _ c.as_slice.ensures.items c.static_modules.ensures c.import_root-import.ensures
    (map_none (λ r. rooted r.layer r.place.now) c.import_root-import.result _ c.is_some.ensures c.if-is_some.false) c.static_root.ensures
