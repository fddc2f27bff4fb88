-- Which keys a filter is marked for: those that have a parameter of any type.
use Rattle.std.specs.Prelude.{ℕ, Bool, false, ◌&&◌, ◌==◌, List, Option, None, Some}
use Rattle.std.specs.List.{list_any}
use Rattle.rhd_hash.specs.declared.key.Key.{Key}
use Rattle.rhd_hash.specs.declared.mixer.Seeds.{Seeds}
use Rattle.rhd_hash.specs.Keys.{has_dynamic}
use Rattle.rhd_hash.specs.Parts.{untyped_key}
use Rattle.rhd_hash.specs.Filter.{slot}
use Rattle.rhd_manifest.specs.Entry.{Entry, entry_key}

-- a number is this one modulo 64, if there is one
abbrev pub has_slot : Option ℕ → ℕ → Bool
has_slot None v = false
has_slot (Some hash) v = slot 8 v == slot 8 hash

-- a key has a parameter of any type, and a hash under these seeds of its name and number of parameters that is this one modulo 64
abbrev pub may_be_dynamic : Seeds → ℕ → Key → Bool
may_be_dynamic seeds hash key = has_dynamic key && (slot 8 hash == slot 8 (untyped_key seeds key))

-- the key of some function that is listed is such a one
abbrev pub lists_dynamic : Seeds → ℕ → List Entry → Bool
lists_dynamic seeds hash listed = list_any (λ e. may_be_dynamic seeds hash (entry_key e)) listed
