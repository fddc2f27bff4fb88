-- The sub-modules of a map, after one is put and in a search for one.
use Rattle.std.proofs.Common.{◌≡◌, List, [], ◌∷◌, cond, Bool, true, false, ◌==◌, length, Option, None, Some, Bor, refl, ap, ◌∙◌}
use Rattle.std.specs.List.{AllZip}
use Rattle.std.specs.Option.{option_map, option_copied}
use Rattle.std.specs.Ordering.{match_ordering, nat_cmp, is_eq}
use Rattle.std.specs.declared.cmp.Ordering.{Ordering}
use Rattle.std.specs.declared.cmp.Ordering.TheVariants.{Less, Equal, Greater}
use Rattle.std.specs.Cmp.Lexicographic.{slice_cmp}
use Rattle.std.specs.BTreeMap.{insert_entry, is_at}
use Rattle.std.specs.Map.{lookup}
use Rattle.std.specs.declared.rc.Rc.{Rc}
use Rattle.std.proofs.lemmas.Map.Text.{is_eq-slice_cmp}
use Rattle.rhd_value.specs.Tree.{Bytes}
use Rattle.rhd_module.specs.Tree.{ModuleTree, sub, subs_of}
use Rattle.rhd_module.specs.Contents.{put_sub, find_sub, has_no_subs}
use Rattle.rhd_manifest.proofs.Empty.{not_zero}

module _ {Z : Type 0} where
  pub subs_put : (es : List (Bytes × Rc ModuleTree Z)) (k : Bytes) (v : Rc ModuleTree Z) → subs_of (insert_entry (slice_cmp nat_cmp) es k v) ≡ put_sub k v.value (subs_of es)
  subs_put [] k v = refl
  subs_put (e ∷ es) k v =
      by (slice_cmp nat_cmp k e.0)
      ∙ ap (λ r. match_ordering (slice_cmp nat_cmp k e.0) (sub k v.value.own v.value.subs (sub e.0 e.1.value.own e.1.value.subs (subs_of es)))
      (sub e.0 v.value.own v.value.subs (subs_of es)) (sub e.0 e.1.value.own e.1.value.subs r)) (subs_put es k v)
    where
      by : (o : Ordering) → subs_of (match_ordering o ((k, v) ∷ e ∷ es) ((e.0, v) ∷ es) (e ∷ insert_entry (slice_cmp nat_cmp) es k v))
          ≡ match_ordering o (sub k v.value.own v.value.subs (sub e.0 e.1.value.own e.1.value.subs (subs_of es)))
          (sub e.0 v.value.own v.value.subs (subs_of es)) (sub e.0 e.1.value.own e.1.value.subs (subs_of (insert_entry (slice_cmp nat_cmp) es k v)))
      by Less = refl
      by Equal = refl
      by Greater = refl

  pub subs_find : (es : List (Bytes × Rc ModuleTree Z)) (k : Bytes) → option_map (λ m. m.value) (lookup (is_at (slice_cmp nat_cmp k)) es) ≡ find_sub k (subs_of es)
  subs_find [] k = refl
  subs_find (e ∷ es) k = by (is_eq (slice_cmp nat_cmp k e.0)) (lookup (is_at (slice_cmp nat_cmp k)) es) ∙ (λ i. cond (is_eq-slice_cmp k e.0 i) (Some e.1.value) (subs_find es k i))
    where
      by : (b : Bool) (o : Option (Rc ModuleTree Z)) → option_map (λ m. m.value) (cond b (Some e.1) o) ≡ cond b (Some e.1.value) (option_map (λ m. m.value) o)
      by true o = refl
      by false o = refl

  pub subs_none : (es : List (Bytes × Rc ModuleTree Z)) → (length es == 0) ≡ has_no_subs (subs_of es)
  subs_none [] = refl
  subs_none (e ∷ es) = not_zero (length es) (length (e ∷ es) == 0) refl

  pub seen_copied : (o : Option (Bor (Rc ModuleTree Z))) → option_map (λ m. m.now.value) o ≡ option_map (λ m. m.value) (option_copied o)
  seen_copied None = refl
  seen_copied (Some m) = refl

-- shared sub-modules are the same ones
pub subs_clone : {Z : Type 0} (es fs : List (Bytes × Rc ModuleTree Z)) → AllZip (λ p q. (q.0 ≡ p.0) × (q.1.value ≡ p.1.value)) es fs → subs_of fs ≡ subs_of es
subs_clone [] [] h = refl
subs_clone [] (f ∷ fs) h = absurd h
subs_clone (e ∷ es) [] h = absurd h
subs_clone (e ∷ es) (f ∷ fs) h = λ i. sub (h.0.0 i) (h.0.1 i).own (h.0.1 i).subs (subs_clone es fs h.1 i)
