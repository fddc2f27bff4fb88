-- Reading a source to its end, and writing all.
use Rattle.std.specs.Prelude.{◌≡◌, ℕ, ◌+◌, ◌<◌, ◌≤◌, List, length, take, Result, Ok, Err}
use Rattle.std.specs.declared.option.Option.{Option}
use Rattle.std.specs.Io.KnownBytes.{Consumes, Appends, IsAtEnd}
use Rattle.rhd_streams.specs.declared.reading.ReadEnd.{ReadEnd}
use Rattle.rhd_streams.specs.declared.reading.ReadEnd.TheVariants as ends
use Rattle.std.specs.Global.{Vec}
use Rattle.rhd_streams.specs.Causes.{Rose}

-- these bytes came, to the end of the source, and no more than most
pub record CameWhole (most : ℕ) (old new : Option (List ℕ)) (bytes : List ℕ) : Type 0 where
  pub came : Consumes old new bytes
  pub whole : IsAtEnd new
  pub bounded : length bytes ≤ most

-- the most bytes that one read asks for
abbrev pub most_asked : ℕ
most_asked = 16384

-- more than most came, and no read was made after the one that brought more
pub record CameMore (most : ℕ) (old new : Option (List ℕ)) : Type 0 where
  pub bytes : List ℕ
  pub came : Consumes old new bytes
  pub more : most < length bytes
  pub once : length bytes ≤ most + most_asked

-- what reading a source to its end gave
abbrev pub ReadsWhole : ℕ → Option (List ℕ) → Option (List ℕ) → ℕ → ℕ → Result (Vec ℕ) ReadEnd → Type 0
ReadsWhole most old new before now (Ok v) = CameWhole most old new v.items
ReadsWhole most old new before now (Err ends.TooMany) = CameMore most old new
ReadsWhole most old new before now (Err ends.Failed) = Rose before now
ReadsWhole most old new before now (Err ends.OutOfMemory) = Unit {0}

-- how it ends where these bytes were left and no read failed, but for want of memory
abbrev pub EndsBy : ℕ → List ℕ → Result (Vec ℕ) ReadEnd → Type 0
EndsBy most xs (Ok v) = (length xs ≤ most) × (v.items ≡ xs)
EndsBy most xs (Err ends.TooMany) = most < length xs
EndsBy most xs (Err ends.Failed) = ⊥
EndsBy most xs (Err ends.OutOfMemory) = Unit {0}

-- the first so many of these bytes were written
pub record WrotePart (old new : Option (List ℕ)) (bytes : List ℕ) : Type 0 where
  pub count : ℕ
  pub within : count ≤ length bytes
  pub wrote : Appends old new (take count bytes)

-- a front of these bytes was written, and not all of them
pub record WroteLess (old new : Option (List ℕ)) (bytes : List ℕ) : Type 0 where
  pub count : ℕ
  pub less : count < length bytes
  pub wrote : Appends old new (take count bytes)
