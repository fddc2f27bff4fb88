-- A module as plain data: its own lists, and its sub-modules by name.
use Rattle.std.specs.Prelude.{ℕ, Bool, true, false, max, ◌+◌, List, [], ◌∷◌, Option, None}
use Rattle.std.specs.declared.rc.Rc.{Rc}
use Rattle.rhd_value.specs.Tree.{Bytes, Tree}
use Rattle.rhd_value.specs.declared.tag.TypeTag.{TypeTag}
use Rattle.rhd_hash.specs.declared.mixer.Seeds.{Seeds}
use Rattle.rhd_func.specs.declared.access.IterId.{IterId}
use Rattle.rhd_func.specs.declared.access.ManifestId.{ManifestId}
use Rattle.rhd_manifest.specs.Entry.{Entry}
use Rattle.rhd_decl.specs.CustomTypes.{CustomTypes}
use Rattle.rhd_table.specs.Pairs.{Pairs}

-- the lists of a module, but for its sub-modules
pub record Lists : Type 0 where
  pub id : Option Bytes
  pub doc : Bytes
  pub types : CustomTypes
  pub vars : List (Bytes × Tree)  -- in ascending order of name
  pub eager : Pairs  -- in order of first insertion, with distinct keys without a path
  pub manifests : List (ManifestId × Bool)  -- each with whether it is flattened; a later one goes before an earlier
  pub listed : List Entry  -- what these list, from the highest precedence to the lowest
  pub iterators : List (TypeTag × IterId)  -- none is built yet
  pub internal : Bool
  pub standard : Bool
  pub indexed : Bool
  pub seeds : Seeds

-- sub-modules in ascending order of name: each has a name, its lists and its own sub-modules; the others come after it
pub data Subs : Type 0 where
  no_subs : Subs
  sub : Bytes → Lists → Subs → Subs → Subs

pub record ModuleTree : Type 0 where
  pub own : Lists
  pub subs : Subs

-- the sub-modules that a map holds
abbrev pub subs_of : {Z : Type 0} → List (Bytes × Rc ModuleTree Z) → Subs
subs_of [] = no_subs
subs_of ((name, m) ∷ later) = sub name m.value.own m.value.subs (subs_of later)

-- the names of sub-modules
abbrev pub names_of : Subs → List Bytes
names_of no_subs = []
names_of (sub name own below later) = name ∷ names_of later

-- how deep sub-modules go
abbrev pub depth : Subs → ℕ
depth no_subs = 0
depth (sub name own below later) = max (depth below + 1) (depth later)

-- a new module: indexed, and nothing in it
abbrev pub empty_module : Seeds → ModuleTree
empty_module seeds = record {
  own = record { id = None; doc = []; types = []; vars = []; eager = []; manifests = []; listed = []; iterators = []; internal = false; standard = false; indexed = true; seeds = seeds };
  subs = no_subs;
}
