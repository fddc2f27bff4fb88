-- What a change of one manifest makes of its table.
use Rattle.std.proofs.Common.{◌≡◌, ◌<◌, true, List, length, get_or, Some, Result, Ok, Err, refl, sym, ap, subst, ◌∙◌, slice_get, slice_set, unwrap_or}
use Rattle.std.proofs.lemmas.Option.{slice_get_read}
use Rattle.std.specs.List.{AllByRecursion}
use Rattle.std.specs.Result.{OnOk, OnErr}
use Rattle.rhd_value.specs.Tree.{Bytes}
use Rattle.rhd_func.specs.Natives.{NativeInfo}
use Rattle.rhd_func.specs.declared.access.FnNamespace.{FnNamespace}
use Rattle.rhd_func.specs.declared.access.ManifestId.{ManifestId}
use Rattle.rhd_value.specs.declared.tag.FnId.{FnId}
use Rattle.rhd_manifest.specs.Entry.{Entry, entry_of}
use Rattle.rhd_manifest.specs.Fits.{manifest_fits, entry_fits, fits}
use Rattle.rhd_manifest.specs.Manifest.{ManifestLists, manifest_at, with_manifest, with_entry, with_sub, no_lists, AreLower}
use Rattle.rhd_manifest.proofs.Fitting.{all_set, fits_entry}
use Rattle.rhd_manifest.proofs.Tables.{lower_set, all_last}
use Rattle.std.specs.List.{list_all}

module _ (inside old : List ManifestLists) (id : ManifestId) (m new : ManifestLists) (same : inside ≡ old) (held : id.0 < length old) (value : m ≡ get_or inside id.0 m) where
  there : slice_get inside id.0 ≡ Some m
  there = let P : List ManifestLists → Type 0 = λ t. id.0 < length t in slice_get_read inside (length inside) id.0 m refl (subst P (sym same) held) value

  pub here : manifest_at inside id ≡ m
  here = ap (λ o. unwrap_or o no_lists) there

  pub changed : {A E : Type 0} (r : Result A E) (change : ManifestLists → ManifestLists) → OnOk r (new ≡ change m) → OnOk r (slice_set inside id.0 new ≡ with_manifest id (change (manifest_at old id)) old)
  changed (Ok x) change e = ap (slice_set inside id.0) (e ∙ ap change (sym here)) ∙ (λ i. slice_set (same i) id.0 (change (manifest_at (same i) id)))
  changed (Err x) change e = tt

  pub lower_same : AreLower inside → new.subs ≡ m.subs → AreLower (slice_set inside id.0 new)
  unfolding AreLower
  lower_same lower e =
      let P : List (Bytes × ManifestId) → Type 0 = λ s. AllByRecursion (λ s. s.1.0 < id.0) s in
      let Q : ManifestLists → Type 0 = λ k. P k.subs in
      lower_set inside id.0 new lower (subst P (sym e) (subst Q here (lower id)))

  pub lower_sub : {A E : Type 0} (r : Result A E) (name : Bytes) (sub : ManifestId) → AreLower inside → sub.0 < id.0 → OnOk r (new ≡ with_sub name sub m) → OnErr r (new ≡ m) → AreLower (slice_set inside id.0 new)
  unfolding AreLower
  lower_sub (Ok x) name sub lower less ok err =
      let P : ManifestLists → Type 0 = λ k. AllByRecursion (λ s. s.1.0 < id.0) k.subs in
      lower_set inside id.0 new lower (subst P (sym ok) (all_last (λ s. s.1.0 < id.0) m.subs (name, sub) (subst P here (lower id)) less))
  lower_sub (Err x) name sub lower less ok err =
      let P : ManifestLists → Type 0 = λ k. AllByRecursion (λ s. s.1.0 < id.0) k.subs in
      lower_set inside id.0 new lower (subst P (sym err) (subst P here (lower id)))

  pub fits_same : (natives : List NativeInfo) → new.entries ≡ m.entries → fits natives (slice_set inside id.0 new) ≡ fits natives old
  fits_same natives e =
      let P : List ManifestLists → Type 0 = λ t. id.0 < length t in
      all_set (manifest_fits natives) inside id.0 new no_lists (subst P (sym same) held) (ap (list_all (entry_fits natives)) e ∙ ap (manifest_fits natives) (sym here)) ∙ ap (fits natives) same

  -- with an entry more for a native that is held, a table that fits still fits
  pub fits_more : {A E : Type 0} (natives : List NativeInfo) (name : Bytes) (namespace : FnNamespace) (func : FnId) (e : Entry) (r : Result A E) → e ≡ entry_of natives name namespace func → func.0 < length natives
      → OnOk r (new ≡ with_entry e m) → OnErr r (new ≡ m) → fits natives old ≡ true → fits natives (slice_set inside id.0 new) ≡ true
  fits_more natives name namespace func e (Ok x) is within ok err h =
      let whole : new ≡ with_entry (entry_of natives name namespace func) (manifest_at inside id) = ok ∙ (λ i. with_entry (is i) (sym here i)) in
      ap (λ k. fits natives (slice_set inside id.0 k)) whole ∙ fits_entry natives inside id.0 name namespace func within (ap (fits natives) same ∙ h)
  fits_more natives name namespace func e (Err x) is within ok err h = fits_same natives (ap (λ k. k.entries) err) ∙ h

-- a part that a change leaves stays, also where the change fails
pub kept : {A E B : Type 0} (part : ManifestLists → B) (m new : ManifestLists) (change : ManifestLists → ManifestLists) (r : Result A E) → part (change m) ≡ part m → OnOk r (new ≡ change m) → OnErr r (new ≡ m) → part new ≡ part m
kept part m new change (Ok x) same ok err = ap part ok ∙ same
kept part m new change (Err x) same ok err = ap part err
