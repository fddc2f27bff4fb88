use Rattle.std.proofs.Common.{◌≡◌, drop}
use Rattle.std.specs.List.{list_all}
use Rattle.rhd_func.specs.Infos.{infos_of}
use Rattle.rhd_manifest.specs.Fits.{entry_fits, manifest_fits}
use Rattle.rhd_manifest.proofs.manifests.manifest_fits.Given as goal

abbrev pub invariant-loop-entry : goal.invariant-loop-entry
invariant-loop-entry g l =
    let infos = infos_of (λ b. (goal.PluginFunc-dyn g b).info b.1) l.natives in
    list_all (entry_fits infos) (drop l.entry-index l.entry-items) ≡ manifest_fits infos l.manifest
