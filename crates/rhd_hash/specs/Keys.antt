-- When two keys are the same: the test that the code makes, and that it decides equality.
use Rattle.std.specs.Prelude.{◌≡◌, ℕ, Bool, true, false, ◌==◌, ◌&&◌, ◌++◌, List, [], length, is_none, if◌then◌else◌, slice_set, refl}
use Rattle.std.specs.declared.option.Option.{Option}
use Rattle.std.specs.declared.option.Option.TheVariants.{None, Some}
use Rattle.std.specs.Bool.{Decides}
use Rattle.std.specs.Cmp.{IsEquivalence, decided}
use Rattle.std.specs.Hash as fed
use Rattle.std.specs.List.{list_any}
use Rattle.std.proofs.Common.{ap}
use Rattle.std.proofs.lemmas.Slice.Eq.{bytes_eq-Decides}
use Rattle.std.proofs.lemmas.Bool.Decides.{Decides-eqb, Decides-and, Decides-like}
use Rattle.rhd_value.specs.declared.tag.TypeTag.{TypeTag}
use Rattle.rhd_value.specs.declared.tag.TypeTag.TheVariants.{Dynamic}
use Rattle.rhd_value.specs.Same.{tag_eq, text_eq, texts_eq, types_eq, texts_eq-Decides, types_eq-Decides}
use Rattle.rhd_hash.specs.declared.key.Key.{Key}
use Rattle.rhd_hash.specs.declared.key.Key.TheVariants.{Script, Typed, Native}

abbrev pub path_eq : Option (List (List ℕ)) → Option (List (List ℕ)) → Bool
path_eq None None = true
path_eq None (Some q) = false
path_eq (Some p) None = false
path_eq (Some p) (Some q) = texts_eq p q

abbrev pub key_eq : Key → Key → Bool
key_eq (Script p n c) (Script q m d) = path_eq p q && (text_eq n m && (c == d))
key_eq (Script p n c) (Typed q m d t) = false
key_eq (Script p n c) (Native q m t) = false
key_eq (Typed p n c s) (Script q m d) = false
key_eq (Typed p n c s) (Typed q m d t) = path_eq p q && (text_eq n m && ((c == d) && text_eq s t))
key_eq (Typed p n c s) (Native q m t) = false
key_eq (Native p n s) (Script q m d) = false
key_eq (Native p n s) (Typed q m d t) = false
key_eq (Native p n s) (Native q m t) = path_eq p q && (text_eq n m && types_eq s t)

pub path_eq-Decides : (p q : Option (List (List ℕ))) → Decides (path_eq p q) (p ≡ q)
path_eq-Decides None None = (λ _. refl, λ _. refl)
path_eq-Decides None (Some q) = (λ e. (cc), λ e. (cc))
path_eq-Decides (Some p) None = (λ e. (cc), λ e. (cc))
path_eq-Decides (Some p) (Some q) = Decides-like (texts_eq p q) (λ e. (cc)) (λ e. (cc)) (texts_eq-Decides p q)

pub key_eq-Decides : (a b : Key) → Decides (key_eq a b) (a ≡ b)
key_eq-Decides (Script p n c) (Script q m d) =
    Decides-like (path_eq p q && (text_eq n m && (c == d))) (λ h. (λ i. Script (h.0 i) (h.1.0 i) (h.1.1 i))) (λ e. ((cc), ((cc), (cc))))
    (Decides-and (path_eq p q) (text_eq n m && (c == d)) (path_eq-Decides p q) (Decides-and (text_eq n m) (c == d) (bytes_eq-Decides n m) (Decides-eqb c d)))
key_eq-Decides (Script p n c) (Typed q m d t) = (λ e. (cc), λ e. (cc))
key_eq-Decides (Script p n c) (Native q m t) = (λ e. (cc), λ e. (cc))
key_eq-Decides (Typed p n c s) (Script q m d) = (λ e. (cc), λ e. (cc))
key_eq-Decides (Typed p n c s) (Typed q m d t) =
    Decides-like (path_eq p q && (text_eq n m && ((c == d) && text_eq s t))) (λ h. (λ i. Typed (h.0 i) (h.1.0 i) (h.1.1.0 i) (h.1.1.1 i))) (λ e. ((cc), ((cc), ((cc), (cc)))))
    (Decides-and (path_eq p q) (text_eq n m && ((c == d) && text_eq s t)) (path_eq-Decides p q)
    (Decides-and (text_eq n m) ((c == d) && text_eq s t) (bytes_eq-Decides n m)
    (Decides-and (c == d) (text_eq s t) (Decides-eqb c d) (bytes_eq-Decides s t))))
key_eq-Decides (Typed p n c s) (Native q m t) = (λ e. (cc), λ e. (cc))
key_eq-Decides (Native p n s) (Script q m d) = (λ e. (cc), λ e. (cc))
key_eq-Decides (Native p n s) (Typed q m d t) = (λ e. (cc), λ e. (cc))
key_eq-Decides (Native p n s) (Native q m t) =
    Decides-like (path_eq p q && (text_eq n m && types_eq s t)) (λ h. (λ i. Native (h.0 i) (h.1.0 i) (h.1.1 i))) (λ e. ((cc), ((cc), (cc))))
    (Decides-and (path_eq p q) (text_eq n m && types_eq s t) (path_eq-Decides p q) (Decides-and (text_eq n m) (types_eq s t) (bytes_eq-Decides n m) (types_eq-Decides s t)))

pub key_eq_equiv : IsEquivalence key_eq
key_eq_equiv = decided key_eq key_eq-Decides

-- the name of a key, and its number of parameters
abbrev pub key_name : Key → List ℕ
key_name (Script p n c) = n
key_name (Typed p n c t) = n
key_name (Native p n t) = n

abbrev pub key_params : Key → ℕ
key_params (Script p n c) = c
key_params (Typed p n c t) = c
key_params (Native p n t) = length t

-- the name of a native's key without a path
abbrev pub native_name : Key → Option (List ℕ)
native_name (Script path name params) = None
native_name (Typed path name params this_type) = None
native_name (Native path name types) = if is_none path then Some name else None

-- a script's key, with a type of its object or without one
abbrev pub is_script_key : Key → Bool
is_script_key (Script path name params) = true
is_script_key (Typed path name params this_type) = true
is_script_key (Native path name types) = false

-- the key of a script method of a type
abbrev pub is_typed_key : Key → Bool
is_typed_key (Script path name params) = false
is_typed_key (Typed path name params this_type) = true
is_typed_key (Native path name types) = false

-- the same function in a module: below the first name of a path, under these further names
abbrev pub with_path : List (List ℕ) → Key → Key
with_path names (Script path name params) = Script (Some names) name params
with_path names (Typed path name params this_type) = Typed (Some names) name params this_type
with_path names (Native path name types) = Native (Some names) name types

-- the types that a native's key has
abbrev pub key_types : Key → List TypeTag
key_types (Script path name params) = []
key_types (Typed path name params this_type) = []
key_types (Native path name types) = types

-- a native's key with another type at a place of its parameters
abbrev pub with_type : ℕ → TypeTag → Key → Key
with_type at tag (Script path name params) = Script path name params
with_type at tag (Typed path name params this_type) = Typed path name params this_type
with_type at tag (Native path name types) = Native path name (slice_set types at tag)

-- a native's key with a parameter of any type
abbrev pub has_dynamic : Key → Bool
has_dynamic (Script path name params) = false
has_dynamic (Typed path name params this_type) = false
has_dynamic (Native path name types) = list_any (λ t. tag_eq t Dynamic) types

-- what a hash of a key is made of
abbrev pub key_input : Key → List (List ℕ)
key_input k = fed.str (key_name k) ++ fed.u64 (key_params k)

pub key_alike : (a b : Key) → key_eq a b ≡ true → key_input a ≡ key_input b
key_alike a b e = ap key_input ((key_eq-Decides a b).0 e)
