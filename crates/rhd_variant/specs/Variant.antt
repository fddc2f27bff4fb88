-- A Rust value of one type as a tree, and back.
use Rattle.std.specs.Prelude.{◌≡◌, ℕ, Option, None, Some, List, ◌⊎◌}
use Rattle.rhd_value.specs.declared.tag.TypeTag.{TypeTag}
use Rattle.rhd_value.specs.declared.tag.TypeTag.TheVariants as tags
use Rattle.rhd_value.specs.Tree.{Bytes, Tree, Pointer, Kind, unit, character, array, object, pointer, list_of, entries_of}
use Rattle.rhd_value.specs.Kinds.{tag_of}

abbrev pub list_in : Kind → Option (List Tree)
list_in (array ts) = Some (list_of ts)
list_in _ = None

abbrev pub entries_in : Kind → Option (List (Bytes × Tree))
entries_in (object es) = Some (entries_of es)
entries_in _ = None

abbrev pub char_in : Kind → Option ℕ
char_in (character c) = Some c
char_in _ = None

abbrev pub unit_in : Kind → Option (Unit {0})
unit_in unit = Some tt
unit_in _ = None

abbrev pub pointer_in : Kind → Option Pointer
pointer_in (pointer n ts p) = Some (record { name = n; curry = list_of ts; typ = p })
pointer_in _ = None

-- a value of a type with this tag is made of the tree
abbrev pub IsTaken : TypeTag → Tree → Type 0
IsTaken tag t = (tag ≡ tags.Dynamic) ⊎ (tag_of t ≡ tag)
