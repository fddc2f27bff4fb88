-- Which natives a table fits after one of its manifests has changed, or with one manifest more.
use Rattle.std.proofs.Common.{◌≡◌, ◌<◌, true, List, [], ◌∷◌, ◌++◌, length, refl, ◌∙◌}
use Rattle.rhd_value.specs.Tree.{Bytes}
use Rattle.rhd_value.specs.declared.tag.FnId.{FnId}
use Rattle.rhd_func.specs.Natives.{NativeInfo}
use Rattle.rhd_func.specs.declared.access.FnNamespace.{FnNamespace}
use Rattle.rhd_func.specs.declared.access.ManifestId.{ManifestId}
use Rattle.rhd_manifest.specs.Entry.{entry_of}
use Rattle.rhd_manifest.specs.Fits.{entry_fits, manifest_fits, fits}
use Rattle.rhd_manifest.specs.Manifest.{ManifestLists, no_lists, manifest_at, with_manifest, with_entry}
use Rattle.rhd_manifest.proofs.Fitting.{all_more, all_last, all_at, entry_fits-of}

-- with one manifest more, in which nothing is
pub fits_more : (natives : List NativeInfo) (table : List ManifestLists) → fits natives table ≡ true → fits natives (table ++ no_lists ∷ []) ≡ true
fits_more natives table h = all_last (manifest_fits natives) table no_lists refl ∙ h

-- with a manifest changed, where that fits as it did before
pub fits_changed : (natives : List NativeInfo) (table : List ManifestLists) (id : ManifestId) (change : ManifestLists → ManifestLists)
    → ((m : ManifestLists) → manifest_fits natives m ≡ true → manifest_fits natives (change m) ≡ true) → fits natives table ≡ true → fits natives (with_manifest id (change (manifest_at table id)) table) ≡ true
fits_changed natives table id change keeps h =
    all_more (manifest_fits natives) table id.0 (change (manifest_at table id)) h (keeps (manifest_at table id) (all_at (manifest_fits natives) table id.0 no_lists h refl))

-- with an entry for a native that is held
pub fits_entry : (natives : List NativeInfo) (name : Bytes) (namespace : FnNamespace) (id : FnId) → id.0 < length natives
    → (m : ManifestLists) → manifest_fits natives m ≡ true → manifest_fits natives (with_entry (entry_of natives name namespace id) m) ≡ true
fits_entry natives name namespace id lt m h =
    all_last (entry_fits natives) m.entries (entry_of natives name namespace id) (entry_fits-of natives name namespace id _ refl lt) ∙ h
