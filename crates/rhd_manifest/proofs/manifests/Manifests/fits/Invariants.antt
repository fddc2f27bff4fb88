use Rattle.std.proofs.Common.{◌≡◌, drop}
use Rattle.std.specs.List.{list_all}
use Rattle.rhd_func.specs.Infos.{infos_of}
use Rattle.rhd_manifest.specs.Fits.{manifest_fits, fits}
use Rattle.rhd_manifest.proofs.manifests.Manifests.fits.Given as goal

abbrev pub invariant-loop-manifest : goal.invariant-loop-manifest
invariant-loop-manifest g l =
    let infos = infos_of (λ b. (goal.PluginFunc-dyn g b).info b.1) l.natives in
    list_all (manifest_fits infos) (drop l.manifest-index l.manifest-items) ≡ fits infos l.self
