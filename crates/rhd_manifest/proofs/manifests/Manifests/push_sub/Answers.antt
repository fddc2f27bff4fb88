use Rattle.std.proofs.Common.{refl}
use Rattle.rhd_manifest.specs.Manifest.{with_sub}
use Rattle.rhd_manifest.proofs.Changes.{changed, lower_sub, fits_same, kept}
use Rattle.rhd_manifest.proofs.manifests.Manifests.push_sub.Goals as goal

pub invariant_of-self : goal.invariant_of-self
invariant_of-self c =
    lower_sub c.self.inside.items.items c.args.self.now c.args.id c.index_mut-manifest.result.now c.push_sub.new.self c.self.view_is c.requires.manifest c.index_mut-manifest.ensures.value
    c.push_sub.result c.args.name c.args.sub c.self.invariant c.requires.lower c.push_sub.ensures.ok c.push_sub.ensures.err

pub returns-clause-ok : goal.returns-clause-ok
returns-clause-ok c =
    changed c.self.inside.items.items c.args.self.now c.args.id c.index_mut-manifest.result.now c.push_sub.new.self c.self.view_is c.requires.manifest c.index_mut-manifest.ensures.value
    c.push_sub.result (with_sub c.args.name c.args.sub) c.push_sub.ensures.ok

pub returns-clause-fits : goal.returns-clause-fits
returns-clause-fits c = λ natives.
    fits_same c.self.inside.items.items c.args.self.now c.args.id c.index_mut-manifest.result.now c.push_sub.new.self c.self.view_is c.requires.manifest c.index_mut-manifest.ensures.value natives
    (kept (λ m. m.entries) c.index_mut-manifest.result.now c.push_sub.new.self (with_sub c.args.name c.args.sub) c.push_sub.result refl c.push_sub.ensures.ok c.push_sub.ensures.err)
