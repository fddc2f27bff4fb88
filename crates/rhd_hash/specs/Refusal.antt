-- Why a table refuses a pair.
use Rattle.std.specs.Prelude.{◌≡◌, ⊤}
use Rattle.std.specs.List.{Contains}
use Rattle.std.specs.Map.{keys_of}
use Rattle.rhd_hash.specs.declared.key.Key.{Key}
use Rattle.rhd_hash.specs.declared.fault.TableFault.{TableFault}
use Rattle.rhd_hash.specs.declared.fault.TableFault.TheVariants.{Clash, OutOfMemory}
use Rattle.rhd_hash.specs.Table.{Table, Clashes}

-- a clash tells the new key, and a key of the table that clashes with it
abbrev pub IsRefusal : {V : Type 0} → Table V → Key → TableFault → Type 0
IsRefusal t key (Clash held new) = (new ≡ key) × Contains (keys_of t.pairs) held × Clashes t.seeds held key
IsRefusal t key OutOfMemory = ⊤
