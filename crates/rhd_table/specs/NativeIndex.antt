-- Where the natives of a name and a number of parameters that have one of any type stand among declarations.
use Rattle.std.specs.Prelude.{◌≡◌, ℕ, ◌+◌, Bool, false, ◌&&◌, nat_eq, List, [], ◌∷◌, slice_get, if◌then◌else◌}
use Rattle.std.specs.Option.{option_map_or}
use Rattle.std.specs.HashMap.{get}
use Rattle.rhd_value.specs.Tree.{Bytes}
use Rattle.rhd_value.specs.declared.tag.TypeTag.{TypeTag}
use Rattle.rhd_hash.specs.declared.key.Key.{Key}
use Rattle.rhd_hash.specs.declared.mixer.Seeds.{Seeds}
use Rattle.rhd_hash.specs.Keys.{has_dynamic}
use Rattle.rhd_hash.specs.Matching.{key_matches}
use Rattle.rhd_hash.specs.Parts.{dynamic_hash}
use Rattle.rhd_table.specs.declared.native_index.NativeIndex.{NativeIndex}
use Rattle.rhd_table.specs.Pairs.{Pairs}

-- a native's key that has a parameter of any type, and this hash of its name and number of parameters
abbrev pub is_noted_by : Seeds → ℕ → Key → Bool
is_noted_by seeds hash key = option_map_or (nat_eq hash) (dynamic_hash seeds key) false

-- a key that has a parameter of any type, of a native of this name, without a path, whose types match
abbrev pub dynamic_matches : ℕ → Bytes → List TypeTag → Key → Bool
dynamic_matches n name kinds key = has_dynamic key && key_matches n name kinds key

-- the places of the keys that pass a test, where the first declaration has the place n
abbrev pub places_from : ℕ → (Key → Bool) → Pairs → List ℕ
places_from n own [] = []
places_from n own (p ∷ ps) = if own p.0 then n ∷ places_from (n + 1) own ps else places_from (n + 1) own ps

-- the place, if the key there passes
abbrev pub place_at : (Key → Bool) → Pairs → ℕ → List ℕ
place_at own ps place = if option_map_or (λ p. own p.0) (slice_get ps place) false then place ∷ [] else []

-- the places noted under a hash
abbrev pub noted : NativeIndex → ℕ → List ℕ
noted natives hash = option_map_or (λ v. v.items) (get nat_eq natives.places hash) []

-- a list without its last element
abbrev pub but_last : {A : Type 0} → List A → List A
but_last [] = []
but_last (a ∷ []) = []
but_last (a ∷ b ∷ more) = a ∷ but_last (b ∷ more)

-- under each hash stand the places of the keys that have it
abbrev pub IsIndex : NativeIndex → Seeds → Pairs → Type 0
IsIndex natives seeds ps = (hash : ℕ) → noted natives hash ≡ places_from 0 (is_noted_by seeds hash) ps

-- the declaration at a place has such a key
abbrev pub matches_at : Pairs → ℕ → Bytes → List TypeTag → ℕ → Bool
matches_at ps n name kinds place = option_map_or (λ p. dynamic_matches n name kinds p.0) (slice_get ps place) false
