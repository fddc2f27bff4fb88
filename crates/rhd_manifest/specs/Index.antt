-- How a manifest keeps where the last entry under a key stands.
use Rattle.std.specs.Prelude.{◌≡◌, ℕ, suc, ◌<◌, nat_eq, drop, Bool, false, ◌&&◌, List, length, reverse, Option, Some, slice_get, is_some, is_none}
use Rattle.std.specs.List.{list_any}
use Rattle.std.specs.Option.{option_and_then}
use Rattle.rhd_value.specs.Firsts.{where_holds}
use Rattle.rhd_hash.specs.declared.key.Key.{Key}
use Rattle.rhd_hash.specs.declared.mixer.Seeds.{Seeds}
use Rattle.rhd_hash.specs.Keys.{key_eq}
use Rattle.rhd_hash.specs.Parts.{mixed}
use Rattle.rhd_manifest.specs.Entry.{Entry, entry_key}
use Rattle.rhd_manifest.specs.Rank.{find_entry}

-- the seeds under which entries are indexed: nothing is mixed in, and a hash may have every bit
abbrev pub index_seeds : Seeds
index_seeds = record { seed0 = 0; seed1 = 0; mask = 0xffffffffffffffff }

abbrev pub index_hash : Key → ℕ
index_hash key = mixed index_seeds key

-- the entry at a place, if there is one and it is under the key
abbrev pub entry_at : Key → List Entry → Option ℕ → Option Entry
entry_at key es place = option_and_then (λ i. option_and_then (λ e. where_holds (key_eq key (entry_key e)) e) (slice_get es i)) place

-- there is a place, and at it no entry under the key
abbrev pub has_other : Key → List Entry → Option ℕ → Bool
has_other key es place = is_some place && is_none (entry_at key es place)

-- Each place that stands under a hash is that of an entry, behind which no key has the hash. Unless two keys have one hash, the last entry under a key stands at the place under its hash.
pub record IsIndex (places : ℕ → Option ℕ) (clashes : Bool) (es : List Entry) : Type 0 where
  pub within : (hash place : ℕ) → places hash ≡ Some place → place < length es
  pub last : (hash place : ℕ) → places hash ≡ Some place → list_any (λ e. nat_eq (index_hash (entry_key e)) hash) (drop (suc place) es) ≡ false
  pub finds : clashes ≡ false → (key : Key) → find_entry key (reverse es) ≡ entry_at key es (places (index_hash key))
