-- The places of the keys that pass a test: after a declaration is put, and in a search for a native that matches.
use Rattle.std.proofs.Common.{◌≡◌, ℕ, suc, ◌+◌, ◌-◌, ◌==◌, ◌&&◌, ◌||◌, Bool, true, false, cond, nat_eq, List, [], ◌∷◌, ◌++◌, length, take, slice_get, Option, None, Some, is_none, refl, sym, ap, append-nil, arith, eq-eqb, true≢false, ◌∙◌}
use Rattle.std.specs.Prelude.{if◌then◌else◌}
use Rattle.std.specs.List.{list_any}
use Rattle.std.specs.Option.{option_map_or}
use Rattle.std.specs.Map.{lookup}
use Rattle.std.proofs.lemmas.Slice.Eq.{bytes_eq-Decides}
use Rattle.rhd_value.specs.Tree.{Bytes}
use Rattle.rhd_value.specs.Same.{tag_eq, text_eq}
use Rattle.rhd_value.specs.declared.tag.TypeTag.{TypeTag}
use Rattle.rhd_value.specs.declared.tag.TypeTag.TheVariants.{Dynamic}
use Rattle.rhd_hash.specs.declared.key.Key.{Key}
use Rattle.rhd_hash.specs.declared.key.Key.TheVariants.{Script, Typed, Native}
use Rattle.rhd_decl.specs.declared.declaration.Declaration.{Declaration}
use Rattle.rhd_table.specs.declared.native_index.NativeIndex.{NativeIndex}
use Rattle.rhd_hash.specs.Keys.{key_eq}
use Rattle.rhd_table.specs.Pairs.{Pairs, put}
use Rattle.rhd_hash.specs.Keys.{has_dynamic}
use Rattle.rhd_hash.specs.Matching.{types_match, key_matches}
use Rattle.rhd_hash.specs.Parts.{untyped}
use Rattle.rhd_hash.specs.declared.mixer.Seeds.{Seeds}
use Rattle.rhd_table.specs.NativeIndex.{dynamic_matches, is_noted_by, places_from, place_at, noted, IsIndex}

behind : (b : Bool) (n : ℕ) (xs ys : List ℕ) → cond b (n ∷ (xs ++ ys)) (xs ++ ys) ≡ cond b (n ∷ xs) xs ++ ys
behind true n xs ys = refl
behind false n xs ys = refl

put_step : (n m : ℕ) (own : Key → Bool) (k : Key) (d : Declaration) (p : Key × Declaration) (ps : Pairs) (same : Bool) → key_eq k p.0 ≡ same
    → places_from (n + 1) own (put k d ps) ≡ places_from (n + 1) own ps ++ cond (is_none (lookup (key_eq k) ps) && own k) (m ∷ []) []
    → places_from n own (cond same ((p.0, d) ∷ ps) (p ∷ put k d ps)) ≡ places_from n own (p ∷ ps) ++ cond (is_none (cond same (Some p.1) (lookup (key_eq k) ps)) && own k) (m ∷ []) []
put_step n m own k d p ps true s ih = sym (append-nil (places_from n own (p ∷ ps)))
put_step n m own k d p ps false s ih =
    ap (λ (xs : List ℕ). cond (own p.0) (n ∷ xs) xs) ih
    ∙ behind (own p.0) n (places_from (n + 1) own ps) (cond (is_none (lookup (key_eq k) ps) && own k) (m ∷ []) [])

-- a new key of a native has its place last, and all others stay
places_put : (n m : ℕ) (own : Key → Bool) (k : Key) (d : Declaration) (ps : Pairs) → m ≡ n + length ps
    → places_from n own (put k d ps) ≡ places_from n own ps ++ cond (is_none (lookup (key_eq k) ps) && own k) (m ∷ []) []
places_put n m own k d [] at = let same : n ≡ m = omega arith in ap (λ (i : ℕ). cond (own k) (i ∷ []) []) same
places_put n m own k d (p ∷ ps) at = put_step n m own k d p ps (key_eq k p.0) refl (places_put (n + 1) m own k d ps (omega arith))

slice_last_step : (k : Key) (d : Declaration) (p : Key × Declaration) (ps : Pairs) (same : Bool) → key_eq k p.0 ≡ same → (is_none (lookup (key_eq k) ps) ≡ true → slice_get (put k d ps) (length ps) ≡ Some (k, d))
    → is_none (cond same (Some p.1) (lookup (key_eq k) ps)) ≡ true → slice_get (cond same ((p.0, d) ∷ ps) (p ∷ put k d ps)) (suc (length ps)) ≡ Some (k, d)
slice_last_step k d p ps true s ih e = absurd cc
slice_last_step k d p ps false s ih e = ih e

-- a new key goes last
slice_last : (k : Key) (d : Declaration) (ps : Pairs) → is_none (lookup (key_eq k) ps) ≡ true → slice_get (put k d ps) (length ps) ≡ Some (k, d)
slice_last k d [] e = refl
slice_last k d (p ∷ ps) e = slice_last_step k d p ps (key_eq k p.0) refl (slice_last k d ps) e

-- what is taken out again is the declaration that went last
take_put_step : (k : Key) (d : Declaration) (p : Key × Declaration) (ps : Pairs) (same : Bool) → key_eq k p.0 ≡ same → (is_none (lookup (key_eq k) ps) ≡ true → take (length ps) (put k d ps) ≡ ps)
    → is_none (cond same (Some p.1) (lookup (key_eq k) ps)) ≡ true → take (suc (length ps)) (cond same ((p.0, d) ∷ ps) (p ∷ put k d ps)) ≡ p ∷ ps
take_put_step k d p ps true s ih e = absurd cc
take_put_step k d p ps false s ih e = ap (λ (qs : Pairs). p ∷ qs) (ih e)

pub take_put : (k : Key) (d : Declaration) (ps : Pairs) → is_none (lookup (key_eq k) ps) ≡ true → take (length ps) (put k d ps) ≡ ps
take_put k d [] e = refl
take_put k d (p ∷ ps) e = take_put_step k d p ps (key_eq k p.0) refl (take_put k d ps) e

-- an index stays the index once an equal key's declaration is put
pub index_put_there : (natives : NativeIndex) (seeds : Seeds) (k : Key) (d : Declaration) (ps : Pairs) → IsIndex natives seeds ps → is_none (lookup (key_eq k) ps) ≡ false → IsIndex natives seeds (put k d ps)
index_put_there natives seeds k d ps index there hash =
    let own : Key → Bool = is_noted_by seeds hash in
    index hash ∙ sym (append-nil (places_from 0 own ps)) ∙ ap (λ (b : Bool). places_from 0 own ps ++ cond (b && own k) (length ps ∷ []) []) (sym there)
    ∙ sym (places_put 0 (length ps) own k d ps (omega arith))

-- an index that notes a new key's place is the index once the key is put
pub index_put_last : (old new : NativeIndex) (seeds : Seeds) (k : Key) (d : Declaration) (ps : Pairs) → IsIndex old seeds ps → is_none (lookup (key_eq k) ps) ≡ true
    → ((hash : ℕ) → noted new hash ≡ noted old hash ++ place_at (is_noted_by seeds hash) (put k d ps) (length ps)) → IsIndex new seeds (put k d ps)
index_put_last old new seeds k d ps index absent notes hash =
    let own : Key → Bool = is_noted_by seeds hash in
    notes hash ∙ ap (λ (o : Option (Key × Declaration)). noted old hash ++ cond (option_map_or (λ p. own p.0) o false) (length ps ∷ []) []) (slice_last k d ps absent)
    ∙ ap (λ (xs : List ℕ). xs ++ cond (own k) (length ps ∷ []) []) (index hash)
    ∙ ap (λ (b : Bool). places_from 0 own ps ++ cond (b && own k) (length ps ∷ []) []) (sym absent)
    ∙ sym (places_put 0 (length ps) own k d ps (omega arith))

false_unless : (a b : Bool) → (a ≡ true → b ≡ true) → b ≡ false → a ≡ false
false_unless true b h e = let t : b ≡ true = h refl in absurd cc
false_unless false b h e = refl

module _ (whole : Pairs) (test own : Key → Bool) (within : (k : Key) → test k ≡ true → own k ≡ true) where
  any_step : (n : ℕ) (p : Key × Declaration) (ps : Pairs) (b : Bool) → own p.0 ≡ b → slice_get whole n ≡ Some p
      → list_any (λ place. option_map_or (λ p. test p.0) (slice_get whole place) false) (places_from (n + 1) own ps) ≡ list_any (λ p. test p.0) ps
      → list_any (λ place. option_map_or (λ p. test p.0) (slice_get whole place) false) (cond b (n ∷ places_from (n + 1) own ps) (places_from (n + 1) own ps)) ≡ test p.0 || list_any (λ p. test p.0) ps
  any_step n p ps true s at ih = rw (at, ih) refl
  any_step n p ps false s at ih = rw (false_unless (test p.0) (own p.0) (within p.0) s) ih

  any_places : (n : ℕ) (ps : Pairs) → ((j : ℕ) → slice_get whole (n + j) ≡ slice_get ps j)
      → list_any (λ place. option_map_or (λ p. test p.0) (slice_get whole place) false) (places_from n own ps) ≡ list_any (λ p. test p.0) ps
  any_places n [] at = refl
  any_places n (p ∷ ps) at =
      let here : n + 0 ≡ n = omega arith in
      any_step n p ps (own p.0) refl (sym (ap (slice_get whole) here) ∙ at 0)
      (any_places (n + 1) ps (λ j. let next : n + 1 + j ≡ n + suc j = omega arith in ap (slice_get whole) next ∙ at (suc j)))

first_true : (a b : Bool) → (a && b) ≡ true → a ≡ true
first_true true b e = refl
first_true false b e = e

second_true : (a b : Bool) → (a && b) ≡ true → b ≡ true
second_true true b e = e
second_true false b e = absurd cc

-- types that match are as many
as_many : (n : ℕ) (types kinds : List TypeTag) → types_match n types kinds ≡ true → length types ≡ length kinds
as_many n [] [] h = refl
as_many n [] (k ∷ kinds) h = absurd cc
as_many n (t ∷ types) [] h = absurd cc
as_many n (t ∷ types) (k ∷ kinds) h = ap suc (as_many (n - 1) types kinds (second_true (tag_eq t k || ((n == 0) && tag_eq t Dynamic)) (types_match (n - 1) types kinds) h))

-- a key that matches has the hash of the name and the number of kinds
noted_matches : (seeds : Seeds) (n : ℕ) (name : Bytes) (kinds : List TypeTag) (k : Key) → dynamic_matches n name kinds k ≡ true → is_noted_by seeds (untyped seeds name (length kinds)) k ≡ true
noted_matches seeds n name kinds (Script path other params) e = absurd cc
noted_matches seeds n name kinds (Typed path other params this_type) e = absurd cc
noted_matches seeds n name kinds (Native (Some path) other types) e =
    let k : Key = Native (Some path) other types in
    absurd (true≢false (sym (second_true (has_dynamic k) (key_matches n name kinds k) e)))
noted_matches seeds n name kinds (Native None other types) e =
    let k : Key = Native None other types in
    let matches = second_true (has_dynamic k) (key_matches n name kinds k) e in
    let named : other ≡ name = (bytes_eq-Decides other name).0 (first_true (text_eq other name) (types_match n types kinds) matches) in
    let many : length types ≡ length kinds = as_many n types kinds (second_true (text_eq other name) (types_match n types kinds) matches) in
    let same : untyped seeds name (length kinds) ≡ untyped seeds other (length types) = λ i. untyped seeds (sym named i) (sym many i) in
    ap (λ (b : Bool). option_map_or (nat_eq (untyped seeds name (length kinds))) (if b then Some (untyped seeds other (length types)) else None) false) (first_true (has_dynamic k) (key_matches n name kinds k) e)
    ∙ eq-eqb (untyped seeds name (length kinds)) (untyped seeds other (length types)) same

-- a search at the places under the hash of a name and a number of kinds finds what a search of all declarations does
pub matches_at_places : (natives : NativeIndex) (seeds : Seeds) (ps : Pairs) (n : ℕ) (name : Bytes) (kinds : List TypeTag) → IsIndex natives seeds ps
    → list_any (λ place. option_map_or (λ p. dynamic_matches n name kinds p.0) (slice_get ps place) false) (noted natives (untyped seeds name (length kinds))) ≡ list_any (λ p. dynamic_matches n name kinds p.0) ps
matches_at_places natives seeds ps n name kinds index =
    let hash : ℕ = untyped seeds name (length kinds) in
    ap (list_any (λ place. option_map_or (λ p. dynamic_matches n name kinds p.0) (slice_get ps place) false)) (index hash)
    ∙ any_places ps (dynamic_matches n name kinds) (is_noted_by seeds hash) (noted_matches seeds n name kinds) 0 ps (λ j. let same : 0 + j ≡ j = omega arith in ap (slice_get ps) same)
