use Rattle.std.proofs.Common.{◌≡◌, false, subst, ◌∙◌}
use Rattle.std.specs.Map.{keys_of}
use Rattle.rhd_table.specs.Indexed.{NoneClash}
use Rattle.rhd_module.specs.Lazy.{with_registered}
use Rattle.rhd_module.specs.Tree.{ModuleTree, subs_of}
use Rattle.rhd_module.specs.Walk.{tree}
use Rattle.rhd_algebra.proofs.lazy.renewed.Goals as goal

pub returns-clause-tree : goal.returns-clause-tree
returns-clause-tree c =
    let child = c.args.child.now in
    let fns = c.in_ok-fns.ensures.ok in
    let made : c.in_ok-made.made ≡ with_registered child (subs_of c.args.below.entries) =
    c.in_ok-made.ensures
    ∙ (λ k. record {
      own = record child.own { eager = (fns k).own.eager; manifests = (fns k).own.manifests; listed = (fns k).own.listed; indexed = false; seeds = (fns k).own.seeds };
      subs = subs_of c.args.below.entries;
    }) in
    subst (λ (m : ModuleTree). NoneClash m.own.seeds (keys_of (tree m))) made c.in_ok-build_index.ensures.0
