-- What contracts see of a table by key: its seeds, and a list of pairs.
use Rattle.std.specs.Prelude.{◌≡◌, ◌≢◌, ℕ, ◌==◌, cond, List, [], ◌∷◌, map, nat_eq, Option, None, Some}
use Rattle.std.specs.List.{Contains, IsDistinct}
use Rattle.rhd_hash.specs.declared.mixer.Seeds.{Seeds}
use Rattle.rhd_hash.specs.declared.key.Key.{Key}
use Rattle.rhd_hash.specs.Parts.{mixed}

-- the pairs stand in the order in which their keys came first
pub record Table (V : Type 0) : Type 0 where
  pub seeds : Seeds
  pub pairs : List (Key × V)

-- no two hashes are equal, so no two keys are equal, and none clash
unfoldable pub HasOwnHashes : Seeds → List Key → Type 0
HasOwnHashes seeds keys = IsDistinct nat_eq (map (mixed seeds) keys)

-- two keys clash where they differ and have one hash
pub record Clashes (seeds : Seeds) (held new : Key) : Type 0 where
  pub differ : held ≢ new
  pub one_hash : mixed seeds held ≡ mixed seeds new

-- two of these keys clash
pub record Clashing (seeds : Seeds) (keys : List Key) (held new : Key) : Type 0 where
  pub held_there : Contains keys held
  pub new_there : Contains keys new
  pub clash : Clashes seeds held new

-- the first pair whose key has this hash
abbrev pub first_hashed : {K V : Type 0} → (K → ℕ) → ℕ → List (K × V) → Option (K × V)
first_hashed hash h [] = None
first_hashed hash h (p ∷ ps) = cond (h == hash p.0) (Some p) (first_hashed hash h ps)
