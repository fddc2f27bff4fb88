-- How the logic stores a module.
use Rattle.std.specs.Prelude.{◌≡◌, ◌+◌, ◌≤◌, Bool, List, [], ◌∷◌, map, refl, Option}
use Rattle.std.specs.Coded.{Coded, code_by, coded×, coded_ℕ, coded_bool, coded_list, coded_option}
use Rattle.std.specs.declared.rc.Rc.{Rc}
use Rattle.std.proofs.Common.{ap, arith}
use denote.Param.Weighed.{most}
use base.Stored.{Gv, gnil, gnum, gcons}
use Rattle.rhd_value.specs.Tree.{Bytes, Tree}
use Rattle.rhd_value.specs.Codes.{coded_entries}
use Rattle.rhd_value.specs.declared.tag.TypeTag.{TypeTag}
use Rattle.rhd_value.specs.contracts.tag.TypeTag as tag
use Rattle.rhd_hash.specs.declared.mixer.Seeds.{Seeds}
use Rattle.rhd_hash.specs.contracts.key.Key as key
use Rattle.rhd_hash.specs.contracts.mixer.Seeds as seeds
use Rattle.rhd_func.specs.declared.access.IterId.{IterId}
use Rattle.rhd_func.specs.declared.access.ManifestId.{ManifestId}
use Rattle.rhd_func.specs.contracts.access.IterId as iterator
use Rattle.rhd_func.specs.contracts.access.ManifestId as manifest
use Rattle.rhd_manifest.specs.Entry.{Entry, coded_entry}
use Rattle.rhd_decl.specs.contracts.declaration.Declaration as declaration
use Rattle.rhd_decl.specs.declared.custom_types.CustomTypeInfo.{CustomTypeInfo}
use Rattle.rhd_decl.specs.contracts.custom_types.CustomTypeInfo as info
use Rattle.rhd_module.specs.Tree.{Lists, Subs, no_subs, sub, ModuleTree, subs_of, depth}
use Rattle.rhd_table.specs.Pairs.{Pairs}

abbrev coded_bytes : Coded Bytes
coded_bytes = coded_list coded_ℕ

abbrev coded_pairs : Coded Pairs
coded_pairs = coded_list (coded× key.the_row.coded declaration.the_row.coded)

-- what is said of a module, what it holds, what is empty yet, its flags, its seeds
abbrev pub lists_code : Coded Lists
lists_code =
    code_by ((Option Bytes × (Bytes × List (Bytes × CustomTypeInfo))) × ((List (Bytes × Tree) × Pairs) × (((List (ManifestId × Bool) × List Entry) × List (TypeTag × IterId)) × ((Bool × (Bool × Bool)) × Seeds))))
    (coded× (coded× (coded_option coded_bytes) (coded× coded_bytes (coded_list (coded× coded_bytes info.the_row.coded))))
    (coded× (coded× coded_entries coded_pairs)
    (coded× (coded× (coded× (coded_list (coded× manifest.the_row.coded coded_bool)) (coded_list coded_entry)) (coded_list (coded× tag.the_row.coded iterator.the_row.coded)))
    (coded× (coded× coded_bool (coded× coded_bool coded_bool)) seeds.the_row.coded))))
    (λ o. ((o.id, (o.doc, o.types)), ((o.vars, o.eager), (((o.manifests, o.listed), o.iterators), ((o.internal, (o.standard, o.indexed)), o.seeds)))))
    (λ p. record {
      id = p.0.0;
      doc = p.0.1.0;
      types = p.0.1.1;
      vars = p.1.0.0;
      eager = p.1.0.1;
      manifests = p.1.1.0.0.0;
      listed = p.1.1.0.0.1;
      iterators = p.1.1.0.1;
      internal = p.1.1.1.0.0;
      standard = p.1.1.1.0.1.0;
      indexed = p.1.1.1.0.1.1;
      seeds = p.1.1.1.1;
    })
    (λ _. refl)

abbrev head : Gv → Gv
head gnil = gnil
head (gnum n) = gnil
head (gcons a b) = a

abbrev tail : Gv → Gv
tail gnil = gnil
tail (gnum n) = gnil
tail (gcons a b) = b

abbrev subs_gv : Subs → Gv
subs_gv no_subs = gnil
subs_gv (sub name own below later) = gcons (coded_bytes.code name) (gcons (lists_code.code own) (gcons (subs_gv below) (subs_gv later)))

pub subs_inj : (x y : Subs) → subs_gv x ≡ subs_gv y → x ≡ y
subs_inj no_subs no_subs p = refl
subs_inj no_subs (sub n o b r) p = absurd (cc)
subs_inj (sub n o b r) no_subs p = absurd (cc)
subs_inj (sub n o b r) (sub m q c s) p =
    λ i. sub (coded_bytes.inj n m (ap (λ g. head g) p) i) (lists_code.inj o q (ap (λ g. head (tail g)) p) i) (subs_inj b c (ap (λ g. head (tail (tail g))) p) i) (subs_inj r s (ap (λ g. tail (tail (tail g))) p) i)

abbrev pub subs_code : Coded Subs
subs_code = record { code = subs_gv; inj = subs_inj }

abbrev pub tree_code : Coded ModuleTree
tree_code = code_by (Lists × Subs) (coded× lists_code subs_code) (λ t. (t.own, t.subs)) (λ p. record { own = p.0; subs = p.1 }) (λ _. refl)

-- the sub-modules of a map go less deep than the module that holds the map
pub most_le-depth : {Z : Type 0} (es : List (Bytes × Rc ModuleTree Z)) → most (λ r. depth r.value.subs + 1) (map (λ e. e.1) es) ≤ depth (subs_of es)
most_le-depth [] = omega arith
most_le-depth ((name, m) ∷ later) = omega (arith, most_le-depth later)
