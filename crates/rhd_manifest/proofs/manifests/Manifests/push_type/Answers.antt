use Rattle.std.proofs.Common.{refl}
use Rattle.rhd_manifest.specs.Manifest.{with_type}
use Rattle.rhd_manifest.proofs.Changes.{changed, lower_same, fits_same, kept}
use Rattle.rhd_manifest.proofs.manifests.Manifests.push_type.Goals as goal

pub invariant_of-self : goal.invariant_of-self
invariant_of-self c =
    lower_same c.self.inside.items.items c.args.self.now c.args.id c.index_mut-manifest.result.now c.push_type.new.self c.self.view_is c.requires c.index_mut-manifest.ensures.value c.self.invariant
    (kept (λ m. m.subs) c.index_mut-manifest.result.now c.push_type.new.self (with_type c.args.type_name c.args.display) c.push_type.result refl c.push_type.ensures.ok c.push_type.ensures.err)

pub returns-clause-ok : goal.returns-clause-ok
returns-clause-ok c =
    changed c.self.inside.items.items c.args.self.now c.args.id c.index_mut-manifest.result.now c.push_type.new.self c.self.view_is c.requires c.index_mut-manifest.ensures.value
    c.push_type.result (with_type c.args.type_name c.args.display) c.push_type.ensures.ok

pub returns-clause-fits : goal.returns-clause-fits
returns-clause-fits c = λ natives.
    fits_same c.self.inside.items.items c.args.self.now c.args.id c.index_mut-manifest.result.now c.push_type.new.self c.self.view_is c.requires c.index_mut-manifest.ensures.value natives
    (kept (λ m. m.entries) c.index_mut-manifest.result.now c.push_type.new.self (with_type c.args.type_name c.args.display) c.push_type.result refl c.push_type.ensures.ok c.push_type.ensures.err)
