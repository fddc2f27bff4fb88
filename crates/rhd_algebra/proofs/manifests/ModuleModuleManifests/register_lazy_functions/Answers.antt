use Rattle.std.proofs.Common.{sym, ◌∙◌}
use Rattle.rhd_module.specs.Lazy.{HasApartTable, HasApartTree}
use Rattle.rhd_module.proofs.LazyParts.{none_touched, root_untouched, tree_unlisted}
use Rattle.rhd_algebra.proofs.manifests.ModuleModuleManifests.register_lazy_functions.Goals as goal

pub returns-then-not-has_lazy_functions : goal.returns-then-not-has_lazy_functions
returns-then-not-has_lazy_functions c =
    let m = c.args.self.now in
    let none = sym c.has_lazy_functions.ensures ∙ c.if-not-has_lazy_functions.true in
    (none_touched HasApartTable m none, root_untouched HasApartTree m none, tree_unlisted m none)
