-- What is kept of the keys of a table beside them: a filter of their hashes, and whether there is a script's.
use Rattle.std.specs.Prelude.{◌≡◌, ℕ, true, false, List, None}
use Rattle.std.specs.Map.{lookup}
use Rattle.rhd_hash.specs.declared.mixer.Seeds.{Seeds}
use Rattle.rhd_hash.specs.declared.key.Key.{Key}
use Rattle.rhd_hash.specs.Filter.{is_marked}
use Rattle.rhd_hash.specs.Keys.{key_eq, is_script_key}
use Rattle.rhd_hash.specs.Parts.{mixed}

-- under a key whose hash isn't marked there is nothing
unfoldable pub Covers : {V : Type 0} → ℕ → List ℕ → Seeds → List (Key × V) → Type 0
Covers size marks seeds pairs = (key : Key) → is_marked size marks (mixed seeds key) ≡ false → lookup (key_eq key) pairs ≡ None

-- under a script's key there is nothing
unfoldable pub HasNoScript : {V : Type 0} → List (Key × V) → Type 0
HasNoScript pairs = (key : Key) → is_script_key key ≡ true → lookup (key_eq key) pairs ≡ None
