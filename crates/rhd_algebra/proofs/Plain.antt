-- Joins that have nothing to gather are combining.
use Rattle.std.proofs.Common.{◌≡◌, Bool, true, false, ◌&&◌, true≢false, List, [], ◌∷◌, refl, sym, ap, subst, append-nil, Result}
use Rattle.rhd_decl.specs.declared.fault.DeclFault.{DeclFault}
use Rattle.rhd_manifest.specs.Listing.{is_none_of}
use Rattle.rhd_module.specs.Algebra.{joined_doc, combined_with, flattened_with, that_pass, merged_with, Joins, Combines, Flattens, Merges}
use Rattle.rhd_module.specs.Contents.{has_no_subs}
use Rattle.rhd_module.specs.Manifests.{put_vars}
use Rattle.rhd_table.specs.Pairs.{put_all, Pairs}
use Rattle.rhd_module.specs.Tree.{ModuleTree, Lists, Subs, no_subs, sub}

none : {A : Type 0} (xs : List A) → is_none_of xs ≡ true → xs ≡ []
none [] is = refl
none (x ∷ xs) is = absurd (true≢false (sym is))

no_sub : (subs : Subs) → has_no_subs subs ≡ true → subs ≡ no_subs
no_sub no_subs is = refl
no_sub (sub name own below later) is = absurd (true≢false (sym is))

both : (a b : Bool) → (a && b) ≡ true → (a ≡ true) × (b ≡ true)
both true b is = (refl, is)
both false b is = absurd (true≢false (sym is))

-- Flattening a module that has no sub-modules.
pub combine_flattens : {A : Type 0} (other m new : ModuleTree) (r : Result A DeclFault) → has_no_subs other.subs ≡ true → Combines other m r new → Flattens other m r new
combine_flattens other m new r is joins =
    let alone : Subs → Type 0 = λ subs. Flattens (record { own = other.own; subs = subs }) m r new in
    let P : Subs → Type 0 = λ subs. Combines (record { own = other.own; subs = subs }) m r new in
    subst alone (sym (no_sub other.subs is)) (subst P (no_sub other.subs is) joins)

-- Merging all of one that has no manifests and lists nothing either.
all_pass : (ps : Pairs) → that_pass (λ d. true) ps ≡ ps
all_pass [] = refl
all_pass (p ∷ ps) = ap (λ (qs : Pairs). p ∷ qs) (all_pass ps)

abbrev plain : Lists → ModuleTree
plain own = record { own = record own { manifests = []; listed = [] }; subs = no_subs }

plain_merged : (own : Lists) (m : ModuleTree) → combined_with (plain own) m ≡ merged_with (λ d. true) (plain own) m
plain_merged own m = λ i. record {
  own = record m.own {
    doc = joined_doc m.own.doc own.doc;
    vars = put_vars own.vars m.own.vars;
    eager = put_all (sym (all_pass own.eager) i) m.own.eager;
    manifests = append-nil m.own.manifests i;
    indexed = false;
  };
  subs = m.subs;
}

pub combine_merges : {A : Type 0} (other m new : ModuleTree) (r : Result A DeclFault) → (has_no_subs other.subs && (is_none_of other.own.manifests && is_none_of other.own.listed)) ≡ true
    → Combines other m r new → Merges (λ d. true) other m r new
combine_merges other m new r is joins =
    let first = both (has_no_subs other.subs) (is_none_of other.own.manifests && is_none_of other.own.listed) is in
    let second = both (is_none_of other.own.manifests) (is_none_of other.own.listed) first.1 in
    let whole : ModuleTree = record { own = record other.own { manifests = other.own.manifests; listed = other.own.listed }; subs = other.subs } in
    let same : whole ≡ plain other.own = λ i. record {
      own = record other.own { manifests = none other.own.manifests second.0 i; listed = none other.own.listed second.1 i };
      subs = no_sub other.subs first.0 i;
    } in
    let P : ModuleTree → Type 0 = λ t. Combines t m r new in
    let R : ModuleTree → Type 0 = λ t. Joins (t ∷ []) t m r new in
    let Q : ModuleTree → Type 0 = λ t. Merges (λ d. true) t m r new in
    subst Q (sym same) (subst R (plain_merged other.own m) (subst P same joins))
