-- Keys with other types, and the walk over the patterns of a key's types.
use Rattle.std.proofs.Common.{◌≡◌, ◌≤◌, ◌<◌, ℕ, ◌+◌, ◌-◌, Bool, true, ◌||◌, List, [], ◌∷◌, length, take, drop, get_or, set, refl, sym, ap, ◌∙◌, arith}
use Rattle.std.specs.Prelude.{zero, suc, Option, Some, None, is_some}
use Rattle.std.proofs.lemmas.List.{length-set}
use Rattle.rhd_value.specs.Same.{tag_eq}
use Rattle.rhd_value.specs.Tree.{Bytes}
use Rattle.rhd_value.specs.declared.tag.TypeTag.{TypeTag}
use Rattle.rhd_value.specs.declared.tag.TypeTag.TheVariants.{Unit, Dynamic}
use Rattle.rhd_hash.specs.declared.key.Key.{Key}
use Rattle.rhd_hash.specs.declared.key.Key.TheVariants.{Script, Typed, Native}
use Rattle.rhd_hash.specs.Keys.{key_name, key_params, key_types, native_name, with_type}
use Rattle.rhd_hash.specs.Parts.{untyped}
use Rattle.rhd_hash.specs.Matching.{types_match}
use Rattle.rhd_call.specs.declared.pick.Pick.{Pick}
use Rattle.rhd_dispatch.specs.Patterns.{patterns_to}
use Rattle.rhd_hash.specs.declared.hashed.UntypedHash.{UntypedHash}
use Rattle.rhd_hash.specs.Untyped.{IsUntyped}
use Rattle.rhd_dispatch.specs.Walks.{with_types, first_match, first_typed, any_dynamic}
use Rattle.rhd_dispatch.proofs.PatternWalk.{walk_prunes, walk_last, walk_over, walk_found, walk_changed, walk_missed_last, walk_missed_over, missed_prunes, dynamic_kept, put_back, or_true, exact_found}

pub own_types : (key : Key) → with_types (key_types key) key ≡ key
own_types (Script path name params) = refl
own_types (Typed path name params this_type) = refl
own_types (Native path name types) = refl

types_set : (key : Key) (at : ℕ) (tag : TypeTag) → key_types (with_type at tag key) ≡ set (key_types key) at tag
types_set (Script path name params) at tag = refl
types_set (Typed path name params this_type) at tag = refl
types_set (Native path name types) at tag = refl

with_set : (types : List TypeTag) (key : Key) (at : ℕ) (tag : TypeTag) → with_types types (with_type at tag key) ≡ with_types types key
with_set types (Script path name params) at tag = refl
with_set types (Typed path name params this_type) at tag = refl
with_set types (Native path name own) at tag = refl

params_set : (key : Key) (at : ℕ) (tag : TypeTag) → key_params (with_type at tag key) ≡ key_params key
params_set (Script path name params) at tag = refl
params_set (Typed path name params this_type) at tag = refl
params_set (Native path name types) at tag = length-set types at tag

name_set : (key : Key) (at : ℕ) (tag : TypeTag) → key_name (with_type at tag key) ≡ key_name key
name_set (Script path name params) at tag = refl
name_set (Typed path name params this_type) at tag = refl
name_set (Native path name types) at tag = refl

-- a type is put back into a key
set_back : (key : Key) (place : ℕ) (t : TypeTag) → place < length (key_types key) → t ≡ get_or (key_types key) place t → with_type place t (with_type place Dynamic key) ≡ key
set_back (Script path name params) place t within is = refl
set_back (Typed path name params this_type) place t within is = refl
set_back (Native path name types) place t within is = ap (λ (ts : List TypeTag). Native path name ts) (put_back types place t within is)

-- one chosen type is `Dynamic`
dynamic_set : (kinds : List TypeTag) (place : ℕ) → place < length kinds → any_dynamic (take (place + 1) (set kinds place Dynamic)) ≡ true
dynamic_set [] place within = absurd (omega arith)
dynamic_set (k ∷ kinds) zero within = refl
dynamic_set (k ∷ kinds) (suc place) within =
    let s : suc place + 1 ≡ suc (place + 1) = omega arith in
    ap (λ (m : ℕ). any_dynamic (take m (k ∷ set kinds place Dynamic))) s ∙ ap (λ (b : Bool). tag_eq k Dynamic || b) (dynamic_set kinds place (omega arith)) ∙ or_true (tag_eq k Dynamic)

-- within a list the default doesn't count
any_default : (ts : List TypeTag) (place : ℕ) (a b : TypeTag) → place < length ts → get_or ts place a ≡ get_or ts place b
any_default [] place a b within = absurd (omega arith)
any_default (t ∷ ts) zero a b within = refl
any_default (t ∷ ts) (suc place) a b within = any_default ts place a b (omega arith)

-- the key of a native that has no path
pub native_is_key : (key : Key) (name : Bytes) → native_name key ≡ Some name → key ≡ Native None (key_name key) (key_types key)
native_is_key (Script path name params) own h = absurd cc
native_is_key (Typed path name params this_type) own h = absurd cc
native_is_key (Native None name types) own h = refl
native_is_key (Native (Some path) name types) own h = absurd cc

module _ (look : Key → Option Pick) (key : Key) (place : ℕ) where
  abbrev by_types : List TypeTag → Option Pick
  by_types types = look (with_types types key)

  pub typed_pruned : place ≤ length (key_types key) → any_dynamic (take place (key_types key)) ≡ true
      → ((types : List TypeTag) → types_match place types (key_types key) ≡ true → any_dynamic types ≡ true → look (with_types types key) ≡ None) → first_typed look key place ≡ None
  typed_pruned within dynamic none = walk_prunes by_types (key_types key) place (16 - place) within (λ types matches. none types matches (dynamic_kept place types (key_types key) matches dynamic))

  pub typed_missed : place ≤ length (key_types key) → look key ≡ None
      → ((types : List TypeTag) → types_match place types (key_types key) ≡ true → any_dynamic types ≡ true → look (with_types types key) ≡ None) → first_typed look key place ≡ None
  typed_missed within missed none = walk_prunes by_types (key_types key) place (16 - place) within (missed_prunes by_types (key_types key) place (ap look (own_types key) ∙ missed) none)

  pub typed_last : (o : Option Pick) → 16 ≤ place → o ≡ look key → o ≡ first_typed look key place
  typed_last o h is = walk_last by_types (key_types key) place o h (is ∙ ap look (sym (own_types key)))

  pub typed_over : (o : Option Pick) → length (key_types key) ≤ place → o ≡ look key → o ≡ first_typed look key place
  typed_over o h is = walk_over by_types (key_types key) place o h (is ∙ ap look (sym (own_types key)))

  pub typed_missed_last : 16 ≤ place → look key ≡ None → ◌≡◌ {A = Option Pick} None (first_typed look key place)
  typed_missed_last h missed = walk_missed_last by_types (key_types key) place h (ap look (own_types key) ∙ missed)

  pub typed_missed_over : length (key_types key) ≤ place → look key ≡ None → ◌≡◌ {A = Option Pick} None (first_typed look key place)
  typed_missed_over h missed = walk_missed_over by_types (key_types key) place h (ap look (own_types key) ∙ missed)

  module _ (types : List TypeTag) (t : TypeTag) (own : types ≡ key_types key) (small : place < 16) (within : place < length types) (is : t ≡ get_or types place Unit) where
    own_within : place < length (key_types key)
    own_within = omega (arith, within, ap length own)

    own_type : t ≡ get_or (key_types key) place t
    own_type = is ∙ ap (λ (ts : List TypeTag). get_or ts place Unit) own ∙ any_default (key_types key) place Unit t own_within

    pub typed_found : (o : Option Pick) → o ≡ first_typed look key (place + 1) → is_some o ≡ true → o ≡ first_typed look key place
    typed_found o h some = walk_found by_types (key_types key) place t o small own_within own_type h some

    module _ (again changed : Key) (k : again ≡ key) (c : changed ≡ with_type place Dynamic again) where
      pub typed_within : place + 1 ≤ length (key_types changed)
      typed_within = omega (arith, own_within, ap (λ (x : Key). length (key_types x)) c, ap length (types_set again place Dynamic), length-set (key_types again) place Dynamic, ap (λ (x : Key). length (key_types x)) k)

      pub typed_dynamic : any_dynamic (take (place + 1) (key_types changed)) ≡ true
      typed_dynamic =
          ap (λ (x : Key). any_dynamic (take (place + 1) (key_types x))) (c ∙ ap (with_type place Dynamic) k) ∙ ap (λ (ts : List TypeTag). any_dynamic (take (place + 1) ts)) (types_set key place Dynamic)
          ∙ dynamic_set (key_types key) place own_within

      pub typed_hash : (hash : UntypedHash) → IsUntyped hash key → IsUntyped hash changed
      typed_hash hash h = h ∙ (λ i. untyped hash.seeds (sym (ap key_name c ∙ name_set again place Dynamic ∙ ap key_name k) i) (sym (ap key_params c ∙ params_set again place Dynamic ∙ ap key_params k) i))

      pub typed_changed : (o last : Option Pick) → o ≡ first_typed look key (place + 1) → o ≡ None → last ≡ first_typed look changed (place + 1) → last ≡ first_typed look key place
      typed_changed o last h none e =
          walk_changed by_types (key_types key) (key_types key) place t o last small own_within own_type refl h (ap (λ (x : Option Pick). is_some x) none)
          (e ∙ ap (λ (x : Key). first_typed look x (place + 1)) (c ∙ ap (with_type place Dynamic) k)
          ∙ (λ i. first_match (λ types. look (with_set types key place Dynamic i)) (take (place + 1) (types_set key place Dynamic i)) (16 - (place + 1)) (drop (place + 1) (types_set key place Dynamic i))))

      pub typed_back : (later back : Key) → later ≡ changed → back ≡ with_type place t later → back ≡ key
      typed_back later back l b = b ∙ ap (with_type place t) (l ∙ c ∙ ap (with_type place Dynamic) k) ∙ set_back key place t own_within own_type

      -- as many patterns are left
      pub typed_left : length (patterns_to (16 - (place + 1)) (drop (place + 1) (key_types changed))) ≡ length (patterns_to (16 - (place + 1)) (drop (place + 1) (set (key_types key) place Dynamic)))
      typed_left = ap (λ (x : Key). length (patterns_to (16 - (place + 1)) (drop (place + 1) (key_types x)))) (c ∙ ap (with_type place Dynamic) k) ∙ ap (λ (ts : List TypeTag). length (patterns_to (16 - (place + 1)) (drop (place + 1) ts))) (types_set key place Dynamic)

-- the exact types come first
pub typed_exact : (look : Key → Option Pick) (key : Key) (o : Option Pick) → o ≡ look key → is_some o ≡ true → o ≡ first_typed look key 0
typed_exact look key None is some = absurd cc
typed_exact look key (Some pick) is some = sym (exact_found (λ types. look (with_types types key)) 16 (key_types key) pick (ap look (own_types key) ∙ sym is))
