-- What an index of functions by key holds, and what it has taken in.
use Rattle.std.specs.Prelude.{◌≡◌, ℕ, Bool, ◌||◌, List, [], ◌∷◌, ⊤}
use Rattle.std.specs.Map.{keys_of}
use Rattle.rhd_hash.specs.declared.key.Key.{Key}
use Rattle.rhd_hash.specs.declared.mixer.Seeds.{Seeds}
use Rattle.rhd_hash.specs.Keys.{key_eq}
use Rattle.rhd_hash.specs.Filter.{is_marked}
use Rattle.rhd_hash.specs.PutIn.{put_in}
use Rattle.rhd_hash.specs.Table.{Clashing, HasOwnHashes}
use Rattle.rhd_func.specs.declared.func.RhaiFunc.{RhaiFunc}
use Rattle.rhd_decl.specs.declared.fault.DeclFault.{DeclFault}
use Rattle.rhd_decl.specs.declared.fault.DeclFault.TheVariants.{HashCollision, OutOfMemory}
use Rattle.rhd_table.specs.Pairs.{Pairs}

-- what an index holds: the seeds under which its keys are hashed, the function under each key, the marks of its filter, and whether a function is found without the module's name
pub record Indexed : Type 0 where
  pub seeds : Seeds
  pub pairs : List (Key × RhaiFunc)
  pub marks : List ℕ
  pub has_global : Bool

-- no two of these keys clash
abbrev pub NoneClash : Seeds → List Key → Type 0
NoneClash seeds keys = (held new : Key) → Clashing seeds keys held new → ⊥

-- the functions of these declarations put in one after the other, the last first: of equal keys the first stands
abbrev pub filled : Pairs → List (Key × RhaiFunc) → List (Key × RhaiFunc)
filled [] pairs = pairs
filled (p ∷ more) pairs = put_in key_eq p.0 p.1.func (filled more pairs)

-- an index that has taken in these declarations, the marks of these hashes, and whether some is found without the module's name
pub record Fills (old new : Indexed) (more : Pairs) (dynamic : ℕ → Bool) (global : Bool) : Type 0 where
  pub same_seeds : new.seeds ≡ old.seeds
  pub puts : new.pairs ≡ filled more old.pairs
  pub marks : (hash : ℕ) → is_marked 8 new.marks hash ≡ (is_marked 8 old.marks hash || dynamic hash)
  pub tells : new.has_global ≡ (old.has_global || global)
  pub apart : HasOwnHashes old.seeds (keys_of old.pairs) → HasOwnHashes new.seeds (keys_of new.pairs)

-- why declarations aren't taken in: two of these keys clash, or memory ran out
abbrev pub IsClash : Seeds → List Key → DeclFault → Type 0
IsClash seeds keys OutOfMemory = ⊤
IsClash seeds keys (HashCollision held other) = Clashing seeds keys held other
IsClash seeds keys fault = ⊥
