-- Keys of which all differ and none clash, said pair by pair.
use Rattle.std.specs.Prelude.{◌≡◌, ◌≢◌, ℕ, ◌<◌, List, slice_get, Some}
use Rattle.rhd_hash.specs.declared.mixer.Seeds.{Seeds}
use Rattle.rhd_hash.specs.declared.key.Key.{Key}
use Rattle.rhd_hash.specs.Table.{Clashes}

abbrev pub AreApart : Seeds → List Key → Type 0
AreApart seeds keys = (i j : ℕ) (a b : Key) → i < j → slice_get keys i ≡ Some a → slice_get keys j ≡ Some b → (a ≢ b) × (Clashes seeds a b → ⊥)
