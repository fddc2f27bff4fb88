-- How a table keeps its pairs: each behind its hash.
use Rattle.std.specs.Prelude.{◌≡◌, ℕ, Bool, true, false, List, [], ◌∷◌, map, Some}
use Rattle.std.specs.Map.{keys_of}
use Rattle.rhd_hash.specs.declared.mixer.Seeds.{Seeds}
use Rattle.rhd_hash.specs.declared.key.Key.{Key}
use Rattle.rhd_hash.specs.Keys.{key_eq}
use Rattle.rhd_hash.specs.Parts.{mixed}
use Rattle.rhd_hash.specs.Table.{Table, HasOwnHashes, first_hashed}
use Rattle.rhd_hash.specs.Covers.{Covers, HasNoScript}

-- the pairs with their hashes before them
abbrev pub hashed : {K V : Type 0} → (K → ℕ) → List (K × V) → List (ℕ × (K × V))
hashed hash [] = []
hashed hash (p ∷ ps) = (hash p.0, p) ∷ hashed hash ps

-- each pair stands behind its own hash, no two hashes are equal, each is marked, and that a script is there is noted
pub record AreSlots {V : Type 0} (seeds : Seeds) (marks : List ℕ) (scripts : Bool) (slots : List (ℕ × (Key × V))) : Type 0 where
  pub behind : slots ≡ hashed (mixed seeds) (map (λ e. e.1) slots)
  pub apart : HasOwnHashes seeds (keys_of (map (λ e. e.1) slots))
  pub covered : Covers 128 marks seeds (map (λ e. e.1) slots)
  pub noted : scripts ≡ false → HasNoScript (map (λ e. e.1) slots)

-- the pair with the hash of the key, if there is one, has the key itself
abbrev pub IsFree : {V : Type 0} → Table V → Key → Type 0
IsFree {V} t key = (held : Key) (value : V) → first_hashed (mixed t.seeds) (mixed t.seeds key) t.pairs ≡ Some (held, value) → key_eq held key ≡ true
