use Rattle.std.proofs.Common.{◌≡◌, ◌<◌, ℕ, slice_set, refl, sym, subst}
use Rattle.std.specs.Result.{OnOk}
use Rattle.rhd_func.specs.Infos.{infos_of}
use Rattle.rhd_manifest.specs.Entry.{Entry}
use Rattle.rhd_manifest.specs.Manifest.{manifest_at, with_manifest, with_entry}
use Rattle.rhd_manifest.proofs.Changes.{changed, lower_same, fits_more, kept}
use Rattle.rhd_manifest.proofs.Held.{as_many}
use Rattle.rhd_manifest.proofs.manifests.Manifests.push_entry.Goals as goal

pub invariant_of-self : goal.invariant_of-self
invariant_of-self g c =
    lower_same c.self.inside.items.items c.args.self.now c.args.id c.index_mut-manifest.result.now c.push_entry.new.self c.self.view_is c.requires.manifest c.index_mut-manifest.ensures.value c.self.invariant
    (kept (λ m. m.subs) c.index_mut-manifest.result.now c.push_entry.new.self (with_entry c.in_ok-entry.entry) c.push_entry.result refl c.push_entry.ensures.ok c.push_entry.ensures.err)

pub returns-clause-ok : goal.returns-clause-ok
returns-clause-ok g c =
    let P : Entry → Type 0 = λ e. OnOk c.push_entry.result (slice_set c.self.inside.items.items c.args.id.0 c.push_entry.new.self ≡ with_manifest c.args.id (with_entry e (manifest_at c.args.self.now c.args.id)) c.args.self.now) in
    subst P c.in_ok-entry.ensures
    (changed c.self.inside.items.items c.args.self.now c.args.id c.index_mut-manifest.result.now c.push_entry.new.self c.self.view_is c.requires.manifest c.index_mut-manifest.ensures.value
    c.push_entry.result (with_entry c.in_ok-entry.entry) c.push_entry.ensures.ok)

pub returns-clause-fits : goal.returns-clause-fits
unfolding infos_of
returns-clause-fits g c =
    let infos = infos_of (λ z. (goal.PluginFunc-dyn g z).info z.1) c.args.natives.now in
    let P : ℕ → Type 0 = λ n. c.args.func.0 < n in
    fits_more c.self.inside.items.items c.args.self.now c.args.id c.index_mut-manifest.result.now c.push_entry.new.self c.self.view_is c.requires.manifest c.index_mut-manifest.ensures.value
    infos c.args.name c.args.namespace c.args.func c.in_ok-entry.entry c.push_entry.result c.in_ok-entry.ensures
    (subst P (sym (as_many (λ b. (goal.PluginFunc-dyn g (b.vtable, b.value)).info b.value) c.args.natives.now.items.items)) c.requires.native)
    c.push_entry.ensures.ok c.push_entry.ensures.err
