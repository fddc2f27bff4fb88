-- The hash of a key's name and number of parameters.
use Rattle.std.specs.Prelude.{◌≡◌}
use Rattle.rhd_hash.specs.declared.key.Key.{Key}
use Rattle.rhd_hash.specs.declared.hashed.UntypedHash.{UntypedHash}
use Rattle.rhd_hash.specs.Keys.{key_name, key_params}
use Rattle.rhd_hash.specs.Parts.{untyped}

-- the hash of a key by its name and its number of parameters
abbrev pub IsUntyped : UntypedHash → Key → Type 0
IsUntyped h key = h.hash ≡ untyped h.seeds (key_name key) (key_params key)
